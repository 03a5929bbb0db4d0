-- From the bits that a scan compared to the entry's place in the slots, and to its label.
use Rattle.std.specs.Prelude.{◌≡◌, List, length, get_or, eqb}
use Rattle.std.proofs.Common.{sym, ap, ap₂, ◌∙◌, eq-eqb, ne_eqb}
use Prim.Native.Nat.{ℕ, suc, ◌+◌, ◌*◌, ◌≤◌, ◌<◌, min}
use native.Mathlib.Omega.{arith}
use Rattle.settings.specs.Legal.{most_bits}
use Rattle.bits.specs.Field.{field}
use Rattle.bits.specs.Put.{put_field}
use Rattle.bits.specs.theory.Puts.{put_zero}
use Rattle.settings.specs.Proper.{Proper}
use Rattle.settings.specs.declared.layout.Layout.{Layout}
use Rattle.table.specs.State.{label_of}
use Rattle.table.specs.Decode.{basic_slots, overflow_slots}
use Rattle.table.specs.Table.{Table}
use Rattle.table.specs.Find.{position}
use Rattle.table_read.specs.Steps.{restored_bytes, First, SlotsWithin, slots_in, basic_run, overflow_run}
use Rattle.table_read.specs.Rows.{Row}
use Rattle.table_read.specs.theory.Reads.{slots_length, entry_in, label_in_lem, slot_inside, basic_run_within, overflow_run_within}
use Rattle.table_read.specs.theory.Finds.{position_is}
use Rattle.table_read.specs.declared.slots.Slots.{Slots}
use Rattle.table.specs.Answer.{said}
use Rattle.table.specs.declared.answers.Word.TheVariants as word

-- where no bits are displaced, the slots count as they stand
pub restored_bytes_plain : (t : List ℕ) (b : Slots) → b.displaced ≡ 0 → restored_bytes t b ≡ t
unfolding restored_bytes
restored_bytes_plain t b z = ap (λ (n : ℕ). put_field t b.start n b.value) z ∙ put_zero t b.start b.value

module _ (g : Layout) (F : Proper g) (t : List ℕ) (b : Slots) where
  pub run_row : SlotsWithin g t b → Row t b.start g.slot g.bie b.count
  run_row R =
      let w = F.slot_is in
      record {
        ends = R.ends;
        near = R.near;
        few = R.few;
        some = F.bie_low;
        wide = F.bie_high;
        fits = omega arith;
        slim = omega (arith, F.bie_high, F.val_high);
      }

  pub label_inside : (k : ℕ) → SlotsWithin g t b → k < b.count → (b.start + k * g.slot + g.bie + g.val ≤ 8 * length t) × (b.start + k * g.slot + g.bie + g.val ≤ most_bits)
  label_inside k R h =
      let i = slot_inside g t b k h in
      let w = F.slot_is in
      (omega (arith, R.ends), omega (arith, R.near))

  -- the first slot with an entry's bits is where the entry stands
  pub first_position : (e r : ℕ) → First (restored_bytes t b) b.start g.slot g.bie e b.count r → r ≡ position g e (slots_in g t b)
  first_position e r f =
      let n = slots_length g t b in
      sym
      (position_is g e (slots_in g t b) r (omega (arith, f.high))
      (λ k h. ap (λ (x : ℕ). eqb x e) (entry_in g t b F k (omega (arith, f.high))) ∙ ne_eqb (bits k) e (f.before k h))
      (λ h. ap (λ (x : ℕ). eqb x e) (entry_in g t b F r (omega arith)) ∙ eq-eqb (bits r) e (f.found (omega arith))))
    where
      bits : ℕ → ℕ
      bits k = field (restored_bytes t b) (b.start + k * g.slot) g.bie

  -- and the label's bits are behind them; m slots were compared, and x is the slot's number
  pub held_restored : (k m n : ℕ) {x : ℕ} → k < b.count → m ≡ n + suc k
      → said word.Held (field (restored_bytes t b) (b.start + k * g.slot + g.bie) g.val) m x ≡ said word.Held (label_of g (get_or (slots_in g t b) k 0)) (n + suc k) x
  held_restored k m n {x} h e = ap₂ (λ (y z : ℕ). said word.Held y z x) (sym (label_in_lem g t b F k h)) e

  module _ (z : b.displaced ≡ 0) where
    pub plain_position : (e r : ℕ) → First t b.start g.slot g.bie e b.count r → r ≡ position g e (slots_in g t b)
    plain_position e r f = first_position e r (rw (restored_bytes_plain t b z) f)

    pub held_plain : (k m n : ℕ) {x : ℕ} → k < b.count → m ≡ n + suc k
        → said word.Held (field t (b.start + k * g.slot + g.bie) g.val) m x ≡ said word.Held (label_of g (get_or (slots_in g t b) k 0)) (n + suc k) x
    held_plain k m n {x} h e =
        ap (λ (s : List ℕ). said word.Held (field s (b.start + k * g.slot + g.bie) g.val) m x) (sym (restored_bytes_plain t b z)) ∙ held_restored k m n h e

-- the whole blocks
module _ (g : Layout) (t : List ℕ) (T : Table g t) where
  pub basic_row : (i : ℕ) → i < g.lists → Row t (basic_slots g i) g.slot g.bie g.sib
  unfolding basic_run
  basic_row i h = run_row g T.proper t (basic_run g i g.sib) (basic_run_within g t T i g.sib h (omega arith))

  pub overflow_row : (j : ℕ) → j < g.nob → Row t (overflow_slots g j) g.slot g.bie g.sio
  unfolding overflow_run
  overflow_row j h =
      let e : min (suc g.sio) g.sio ≡ g.sio = omega arith in
      rw e at (run_row g T.proper t (overflow_run g j g.sio) (overflow_run_within g t T j g.sio h))
