-- Clause 8.12 for every list of calls, beside a table that check found sound or that make made. What a call makes of numbers is proved in plain_set,
-- and what it makes of table and set in Lent; here is the induction over the calls.
use Rattle.std.specs.Prelude.{◌≡◌, List, [], ◌∷◌, ◌++◌, ℕ, take, drop, Ok, true}
use Rattle.std.proofs.Common.{subst, take-append-drop}
use Rattle.bits.specs.Bytes.{Bytes}
use Rattle.settings.specs.declared.settings.Settings.{Settings}
use Rattle.settings.specs.Legal.{Legal}
use Rattle.table.specs.Calls.{held, make_call, check_call}
use Rattle.plain_set.specs.Rebuilt.{Pair, rebuilt_pairs}
use Rattle.plain_set.specs.Set.{key_given}
use Rattle.plain_set.proofs.Agree.{Agree}
use Rattle.plain_set.specs.theory.Answers.{made_opened, sound_opened}
use Rattle.plain_set.proofs.Longer.{bytes_take}
use Rattle.plain_set.proofs.NumberCalls.{Belongs, Numbers, belongs_gives, lent_numbers}
use Rattle.plain_set.proofs.Start.{sound_agree, new_agree}
use Rattle.demand3.specs.Claim.{Lending, given, set_after}
use Rattle.demand3.specs.Numbers.{Stays, NumbersGood}
use Rattle.demand3.proofs.Lent.{call_is, lent_call, lent_follows}

module _ {s : Settings} (right : Legal s) where
  -- what a call makes of numbers
  call_numbers : {t : List ℕ} {T : List (List ℕ)} {ps : List Pair} → Agree s t T ps → (c : Lending)
      → Numbers s t (key_given (given c.call).given) (lent_call s t c)
  call_numbers {t} {T} {ps} a c =
      let u : List ℕ = take c.lent t in
      let rest : List ℕ = drop c.lent t in
      let whole : Agree s (u ++ rest) T ps = rw (take-append-drop c.lent t) a in
      subst (λ (m : List ℕ). Numbers s m (key_given (given c.call).given) (lent_call s t c)) (take-append-drop c.lent t)
      (rw (call_is s u c.call)
      (lent_numbers right u rest (bytes_take c.lent t a.bytes) whole (given c.call).verb (given c.call).given))

  -- the number of a key's slot is good, until an entry is taken out
  belongs_stays : {t : List ℕ} {T : List (List ℕ)} {ps : List Pair} {k n : ℕ} → Agree s t T ps → Belongs s t k n
      → (cs : List Lending) → Stays s t ps k n cs
  belongs_stays a b [] = belongs_gives right a b
  belongs_stays {t = t} {T = T} {ps = ps} {k = k} {n = n} a b (c ∷ cs) = (
    belongs_gives right a b,
    (λ q. belongs_stays {t = (lent_call s t c).bytes} {T = (lent_follows right a c).after} {ps = (set_after s t ps c).after} {k = k} {n = n} (lent_follows right a c).agree ((call_numbers a c).stays q k n b) cs),
  )

  agree_numbers : {t : List ℕ} {T : List (List ℕ)} {ps : List Pair} → Agree s t T ps → (cs : List Lending) → NumbersGood s t ps cs
  agree_numbers a [] = tt
  agree_numbers {t = t} {T = T} {ps = ps} a (c ∷ cs) =
      let w = lent_follows right a c in
      ((λ n q. belongs_stays w.agree ((call_numbers a c).told n q) cs), agree_numbers {t = (lent_call s t c).bytes} {T = w.after} {ps = (set_after s t ps c).after} w.agree cs)

-- beside a table that check finds sound
pub numbers_good : (s : Settings) (t m : List ℕ) → Bytes t → (check_call s t m).answer ≡ Ok true
    → (cs : List Lending) → NumbersGood s t (rebuilt_pairs s (held s t)) cs
numbers_good s t m bytes e cs =
    let o = sound_opened s t m e in
    agree_numbers o.0.right (sound_agree s o.0.right t bytes o.0.room o.1).1 cs

-- beside a new table
pub numbers_good_new : (s : Settings) (t : List ℕ) → Bytes t → (make_call s t).answer ≡ (Ok tt)
    → (cs : List Lending) → NumbersGood s (make_call s t).bytes [] cs
numbers_good_new s t bytes e cs =
    let o = made_opened s t e in
    agree_numbers o.right (new_agree s o.right t bytes o.room) cs
