use Rattle.bits.proofs.near_end.+put.Given as goal

abbrev pub decreases-put : goal.decreases-put
decreases-put l = l.n
