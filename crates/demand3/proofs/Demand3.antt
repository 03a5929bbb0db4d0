-- Demand 3, the claim, for every list of calls: with keys and texts mixed, legal or not, with any labels and any number of lent bytes. All that is
-- asked of the table is what make or check answered to it.
use Rattle.std.specs.Prelude.{◌≡◌, List, [], ◌∷◌, ℕ, Ok, true}
use Rattle.bits.specs.Bytes.{Bytes}
use Rattle.settings.specs.declared.settings.Settings.{Settings}
use Rattle.settings.specs.Legal.{Legal}
use Rattle.table.specs.Calls.{held, make_call, check_call}
use Rattle.plain_set.specs.Rebuilt.{Pair, rebuilt_pairs}
use Rattle.plain_set.proofs.Agree.{Agree, agree_holds}
use Rattle.plain_set.specs.theory.Answers.{made_opened, sound_opened}
use Rattle.plain_set.proofs.Start.{sound_agree, new_agree}
use Rattle.demand3.specs.Claim.{Lending, Behaves, set_after}
use Rattle.demand3.proofs.Lent.{lent_call, lent_follows}

-- from bytes and a set that agree, every list of calls behaves
agree_behaves : (s : Settings) → Legal s → {t : List ℕ} {T : List (List ℕ)} {ps : List Pair} → Agree s t T ps → (cs : List Lending) → Behaves s t ps cs
agree_behaves s right a [] = agree_holds s right a
agree_behaves s right {t = t} {T = T} {ps = ps} a (c ∷ cs) =
    let w = lent_follows right a c in
    (agree_holds s right a, w.answers, agree_behaves s right {t = (lent_call s t c).bytes} {T = w.after} {ps = (set_after s t ps c).after} w.agree cs)

-- clause 8.2: beside a table that check finds sound, the set starts as the pairs rebuilt from it
pub demand_three : (s : Settings) (t m : List ℕ) → Bytes t → (check_call s t m).answer ≡ Ok true
    → (cs : List Lending) → Behaves s t (rebuilt_pairs s (held s t)) cs
demand_three s t m bytes e cs =
    let o = sound_opened s t m e in
    agree_behaves s o.0.right (sound_agree s o.0.right t bytes o.0.room o.1).1 cs

-- clause 8.2: beside a new table it starts empty
pub demand_three_new : (s : Settings) (t : List ℕ) → Bytes t → (make_call s t).answer ≡ (Ok tt)
    → (cs : List Lending) → Behaves s (make_call s t).bytes [] cs
demand_three_new s t bytes e cs =
    let o = made_opened s t e in
    agree_behaves s o.right (new_agree s o.right t bytes o.room) cs
