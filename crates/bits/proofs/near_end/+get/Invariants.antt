use Rattle.bits.proofs.near_end.+get.Given as goal

abbrev pub decreases-get : goal.decreases-get
decreases-get l = l.n
