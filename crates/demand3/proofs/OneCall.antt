-- One call with a key or a text on a table that check finds sound: what it is refused for, however much of the table it is lent, and what a relabel
-- changes that is lent all of it.
use Rattle.std.specs.Prelude.{◌≡◌, refl, List, [], ◌∷◌, ℕ, length, take, Err, Ok, true}
use Rattle.std.proofs.Common.{sym, ap, ◌∙◌}
use Rattle.bits.specs.Bytes.{Bytes}
use Rattle.settings.specs.declared.settings.Settings.{Settings}
use Rattle.settings.specs.declared.refusal.Refusal.{Refusal}
use Rattle.settings.specs.theory.Dues.{NoneDue}
use Rattle.table.specs.Calls.{relabel, held, check_call}
use Rattle.plain_set.specs.Rebuilt.{rebuilt_pairs}
use Rattle.plain_set.specs.Set.{key_given, call_due}
use Rattle.plain_set.specs.Plain.{plain}
use Rattle.plain_set.specs.OwnRefusal.{OwnRefusal}
use Rattle.plain_set.specs.OnlyLabel.{RelabelsOnly}
use Rattle.plain_set.proofs.Refusals.{refused_only}
use Rattle.plain_set.proofs.Relabel.{given_relabel}
use Rattle.text_calls.specs.Asked.{Asked, by_key, by_text, verb_asked, table_call}
use Rattle.demand3.specs.Claim.{Lending, given}
use Rattle.demand3.proofs.Lent.{call_is}
use Rattle.demand3.proofs.Demand3.{demand_three}

module _ (s : Settings) (t m : List ℕ) (bytes : Bytes t) (sound : (check_call s t m).answer ≡ Ok true) where
  -- clause 8.9: with legal inputs only what the set refuses itself is refused
  pub refused_as_set : (c : Lending) (why : Refusal) → NoneDue (call_due s (length (take c.lent t)) (given c.call))
      → (table_call s (take c.lent t) c.call).answer ≡ Err why
      → OwnRefusal s (rebuilt_pairs s (held s t)) (given c.call).verb (key_given (given c.call).given) why
  refused_as_set c why d q =
      refused_only s (length (take c.lent t)) (rebuilt_pairs s (held s t)) (given c.call) why d
      (sym (demand_three s t m bytes sound (c ∷ [])).1 ∙ ap plain q)

  -- clause 6.16
  pub relabel_only : (l : ℕ) (c : Asked) → verb_asked c ≡ relabel l → RelabelsOnly s t (key_given (given c).given) l (table_call s t c)
  relabel_only l c e = rw (call_is s t c, verb_is c, e) (given_relabel s t m bytes sound l (given c).given)
    where
      verb_is : (c : Asked) → (given c).verb ≡ verb_asked c
      verb_is (by_key v k) = refl
      verb_is (by_text v x) = refl
