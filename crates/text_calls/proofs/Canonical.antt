-- The two statements of what is written agree: the text that is written for an address is the only one that is canonical for it.
use Rattle.std.specs.Prelude.{◌≡◌, refl, true, false, take, drop, get_or, ltb, leb}
use Rattle.std.proofs.Math.Path.{sym, ap}
use Rattle.std.proofs.Common.{◌∙◌, lt_of_not-le, length-append, length-take-le, get_or-append-add, take_at, drop_at, lit<, lit≤}
use mathlib.Core.List.{List, [], ◌∷◌, ◌++◌, append_assoc}
use Prim.Native.Nat.{ℕ, ◌+◌, ◌-◌, ◌*◌, ◌/◌, ◌%◌, ◌^◌, ◌≤◌, ◌<◌}
use native.Mathlib.Omega.{arith}
use Rattle.std.proofs.Math.ListN.{length, replicate, get_or-append}
use Rattle.std.proofs.lemmas.List.{length-replicate}
use borrow.Author.Tests.{ltb-true, ltb-false, leb-true, leb-false, eqb-false}
use Rattle.laws.specs.Cases.{cases}
use Rattle.laws.specs.Lists.{replicate_at}
use Rattle.keys.specs.Key.{key_number}
use Rattle.keys.specs.declared.Key.{Key}
use Rattle.text_read.specs.Reading.{joined}
use Rattle.text_read.specs.Grammar.{Dotted, four}
use Rattle.text_read.specs.theory.Joined.{Small}
use Rattle.text_write.specs.Ascii.{ascii}
use Rattle.text_write.specs.Writing.{hex_digit, trimmed, group_text, part_text, longest, text_of, four_groups, is_mapped, dotted_text, mapped_text, written}
use Rattle.text_write.specs.theory.Mapped.{written_mapped, written_plain}
use Rattle.text_write.specs.theory.Texts.{text_plain, text_gap}
use Rattle.text_write.specs.theory.LongestRun.{Run, longest_run, longest_longest, longest_first}
use Rattle.text_write.specs.theory.Runs.{longest_is}
use Rattle.text_calls.specs.Canonical.{Notation, hexadecimal, mixed, Fields, none, decimals, next, ZeroRun, zero_run, Shortened, Form, plain, gap, Mapped, mapped, Noted, under, other, Canonical}
use Rattle.text_calls.specs.theory.Bounds.{small_take, small_drop, spells_small}
use Rattle.text_calls.specs.theory.Texts.{run_between}
use Rattle.text_calls.specs.theory.Mapped.{dotted_written, dotted_text_lem, mapped_groups}
use Rattle.text_calls.specs.theory.RoundTrip.{Fits, joined_key, key_small, written_spells}
use Rattle.text_calls.specs.theory.Fields.{field_text, group_field, fields_text, part_fields}

-- The run that is shortened ---------------------------------------------------------------------------------------------

-- a run by its places
run_places : {l : List ℕ} {i n : ℕ} → ZeroRun l i n → Run l i n
run_places (zero_run a b n) =
    let p = length-append a (replicate n 0) in
    let q = length-append (a ++ replicate n 0) b in
    let r = length-replicate {A = ℕ} n 0 in
    record {
      within = omega arith;
      zero_at =
          λ j h k.
          let e : j ≡ length a + (j - length a) = omega arith in
          get_or-append (a ++ replicate n 0) b 0 j (omega arith)
          ∙ ap (λ (m : ℕ). get_or (a ++ replicate n 0) m 0) e
          ∙ get_or-append-add a (replicate n 0) (j - length a) 0
          ∙ replicate_at n (j - length a) 0;
    }

-- what `longest` finds is a run
longest_zeros : (l : List ℕ) → ZeroRun l (longest l).0 (longest l).1
longest_zeros l =
    let s = (longest l).0 in
    let n = (longest l).1 in
    let w = (longest_run l).within in
    rw (run_between l s n (longest_is l).run, length-take-le s l (omega arith)) at (zero_run (take s l) (drop (s + n) l) n)

-- it is to be shortened, if it has two groups
longest_shortened : (l : List ℕ) → 2 ≤ (longest l).1 → Shortened l (longest l).0 (longest l).1
longest_shortened l h = record {
  two = h;
  longest = λ j m r. longest_longest l j m (run_places r);
  first = λ j m r k. lt_of_not-le (λ e. let f = longest_first l j m (run_places r) e in omega arith);
}

-- and no other is
shortened_longest : {l : List ℕ} {i n : ℕ} → ZeroRun l i n → Shortened l i n → ((longest l).0 ≡ i) × ((longest l).1 ≡ n)
shortened_longest {l} {i} {n} r c =
    let z = longest_zeros l in
    let p = longest_longest l i n (run_places r) in
    let q = c.longest (longest l).0 (longest l).1 z in
    let f = longest_first l i n (run_places r) q in
    let g : (longest l).0 < i → ⊥ = λ k. let h = c.first (longest l).0 (longest l).1 z k in omega arith in
    (omega arith, omega arith)

-- The hexadecimal form --------------------------------------------------------------------------------------------------

-- the text is what is written for the groups
form_text : {s l : List ℕ} → Form hexadecimal s l → s ≡ text_of l
form_text (plain {l = l} r h) =
    fields_text r ∙ sym (text_plain l (omega (arith, h (longest l).0 (longest l).1 (longest_zeros l))))
form_text (gap {a = a} {b = b} {n = n} p q c) =
    let l : List ℕ = a ++ replicate n 0 ++ b in
    let s : ℕ = (longest l).0 in
    let m : ℕ = (longest l).1 in
    let z : (s ≡ length a) × (m ≡ n) = shortened_longest (zero_run a b n) c in
    let before : take s l ≡ a = ap (take s) (append_assoc a (replicate n 0) b) ∙ take_at a (replicate n 0 ++ b) s (sym z.0) in
    let behind : drop (s + m) l ≡ b =
    drop_at (a ++ replicate n 0) b (s + m) (omega (arith, z, length-append a (replicate n 0), length-replicate {A = ℕ} n 0)) in
    rw (text_gap l (omega (arith, z.1, c.two)), before, behind, fields_text p, fields_text q)

text_form : (l : List ℕ) → Small l → Form hexadecimal (text_of l) l
text_form l h =
    let s : ℕ = (longest l).0 in
    let n : ℕ = (longest l).1 in
    let again : take s l ++ replicate n 0 ++ drop (s + n) l ≡ l = run_between l s n (longest_is l).run in
    let at : length (take s l) ≡ s = length-take-le s l (omega (arith, (longest_run l).within)) in
    cases (ltb n 2)
    (λ t.
    let few = ltb-true n 2 t in
    rw (text_plain l few) (plain (part_fields l h) (λ j m r. omega (arith, longest_longest l j m (run_places r)))))
    (λ t.
    let two = ltb-false n 2 t in
    let front = part_fields (take s l) (small_take s l h) in
    let back = part_fields (drop (s + n) l) (small_drop (s + n) l h) in
    rw (text_gap l two) (rw again at (gap {n = n} front back (rw (again, at) (longest_shortened l two)))))

-- The mixed form --------------------------------------------------------------------------------------------------------

-- the groups of a mapped address: "::" stands for the first five
module _ (g h : ℕ) where
  abbrev under_ffff : List ℕ
  under_ffff = 0 ∷ 0 ∷ 0 ∷ 0 ∷ 0 ∷ 65535 ∷ g ∷ h ∷ []

  -- a run of zero groups has at most five, and is the first if it has five
  run_before : (i n : ℕ) → Run under_ffff i n → (n ≤ 5) × (5 ≤ n → i ≡ 0)
  run_before i n r =
      let w : i + n ≤ 8 = r.within in
      let past : i ≤ 5 → 5 < i + n → ⊥ = λ p q. let z : ◌≡◌ {A = ℕ} 65535 0 = r.zero_at 5 p q in omega arith in
      cases (leb i 5)
      (λ e.
      let p = leb-true i 5 e in
      cases (ltb 5 (i + n)) (λ d. absurd (past p (ltb-true 5 (i + n) d))) (λ d. let q = ltb-false 5 (i + n) d in (omega arith, λ m. omega arith)))
      (λ e. let p = leb-false i 5 e in (omega arith, λ m. absurd (omega arith)))

  first_five : Shortened under_ffff 0 5
  first_five = record {
    two = lit≤ tt;
    longest = λ j m r. (run_before j m (run_places r)).0;
    first = λ j m r k. absurd (omega arith);
  }

  -- fields that end in decimals have two groups at least
  mixed_two : {t l : List ℕ} → Fields mixed t l → 2 ≤ length l
  mixed_two (decimals (four p q r w)) = lit≤ tt
  mixed_two (next f r) = omega arith

  tail_text : {t l : List ℕ} → Fields mixed t l → l ≡ g ∷ h ∷ [] → t ≡ dotted_text (joined 0 (g ∷ h ∷ []))
  tail_text (decimals d) e = rw e at (dotted_text_lem d)
  tail_text (next f r) e = absurd (omega (arith, mixed_two r, ap length e))

  back_text : {t l : List ℕ} → Fields mixed t l → l ≡ 65535 ∷ g ∷ h ∷ [] → t ≡ group_text 65535 ++ 58 ∷ dotted_text (joined 0 (g ∷ h ∷ []))
  back_text (decimals (four p q r w)) e = absurd (omega (arith, ap length e))
  back_text (next {t = t} {g = f} x r) e =
      let i : f ≡ 65535 = cc in
      rw (field_text x, i, tail_text r cc)

  -- the text is "::ffff:" and the dotted tail
  mixed_text : {s l : List ℕ} → Form mixed s l → l ≡ under_ffff → s ≡ ascii "::ffff:" ++ dotted_text (joined 0 (g ∷ h ∷ []))
  unfolding ascii group_text trimmed hex_digit
  mixed_text (plain r k) e = absurd (let z = k 0 5 (rw e (zero_run [] (65535 ∷ g ∷ h ∷ []) 5)) in omega arith)
  mixed_text (gap {s = s} {t = t} {a = a} {b = b} {n = n} p q c) e =
      let r = run_before (length a) n (rw e at (run_places (zero_run a b n))) in
      let five : 5 ≤ n = c.longest 0 5 (rw e (zero_run [] (65535 ∷ g ∷ h ∷ []) 5)) in
      ends a p q (r.1 five) (omega (arith, r.0)) e
    where
      ends : (a : List ℕ) → Fields hexadecimal s a → Fields mixed t b → length a ≡ 0 → n ≡ 5 → a ++ replicate n 0 ++ b ≡ under_ffff
          → s ++ 58 ∷ 58 ∷ t ≡ ascii "::ffff:" ++ dotted_text (joined 0 (g ∷ h ∷ []))
      ends [] p q i j e =
          let k : b ≡ 65535 ∷ g ∷ h ∷ [] = back (rw j at e) in
          rw (fields_text p, back_text q k) (unfold part_text in refl)
        where
          back : replicate 5 0 ++ b ≡ under_ffff → b ≡ 65535 ∷ g ∷ h ∷ []
          back e = cc
      ends (x ∷ a) p q i j e = absurd (omega arith)

  mixed_form : {s : List ℕ} → Dotted s (g ∷ h ∷ []) → Form mixed (ascii "::ffff:" ++ s) under_ffff
  unfolding ascii group_text trimmed hex_digit
  mixed_form d = gap {n = 5} none (next (group_field 65535 (lit< tt)) (decimals d)) first_five

-- The form of an address ------------------------------------------------------------------------------------------------

-- the groups of a number are its own
joined_once : (v w : ℕ) (l m : List ℕ) → Small l → Small m → length l ≡ length m → joined v l ≡ joined w m → (v ≡ w) × (l ≡ m)
unfolding joined
joined_once v w [] [] h k e d = (d, refl)
joined_once v w [] (g ∷ m) h k e d = absurd (omega arith)
joined_once v w (g ∷ l) [] h k e d = absurd (omega arith)
joined_once v w (f ∷ l) (g ∷ m) h k e d =
    let p = joined_once (v * 65536 + f) (w * 65536 + g) l m h.1 k.1 (omega arith) d in
    let q : f ≡ g = omega (arith, p.0, h.0, k.0) in
    (omega (arith, p.0), rw (q, p.1))

-- the groups are under ::ffff:0:0/96 exactly if the address is
mapped_is : {l : List ℕ} → Mapped l → Small l → joined 0 l / 2 ^ 32 ≡ 65535
unfolding joined
mapped_is (mapped g h) m = let p : (g < 65536) × (h < 65536) = (m.1.1.1.1.1.1.0, m.1.1.1.1.1.1.1.0) in omega arith

module _ (k : Key) (f : Fits k) where
  abbrev key_groups_lem : List ℕ
  key_groups_lem = four_groups k.high ++ four_groups k.low

  mapped_not : is_mapped k.high k.low ≡ false → Mapped key_groups_lem → ⊥
  unfolding is_mapped key_number
  mapped_not e m =
      let p : (k.high * 2 ^ 64 + k.low) / 2 ^ 32 ≡ 65535 = rw (joined_key k) at (mapped_is m (key_small k f)) in
      eqb-false ((k.high * 2 ^ 64 + k.low) / 2 ^ 32) 65535 e p

  -- what is written for an address is canonical: in decimals, or in groups alone
  decimals_form : is_mapped k.high k.low ≡ true → Canonical (written k.high k.low) k
  unfolding mapped_text
  decimals_form e =
      let x : ℕ = k.low % 2 ^ 32 in
      let q = mapped_groups k.high k.low e in
      record {
        groups = key_groups_lem;
        spells = written_spells k f;
        address = joined_key k;
        notation = mixed;
        noted = under {l = key_groups_lem} (rw q (mapped (x / 65536) (x % 65536)));
        form = rw (written_mapped k.high k.low e, q) (mixed_form (x / 65536) (x % 65536) (dotted_written x (omega arith)));
      }

  groups_form : is_mapped k.high k.low ≡ false → Canonical (written k.high k.low) k
  groups_form e = record {
    groups = key_groups_lem;
    spells = written_spells k f;
    address = joined_key k;
    notation = hexadecimal;
    noted = other (mapped_not e);
    form = rw (written_plain k.high k.low e) (text_form key_groups_lem (key_small k f));
  }

  pub written_form : Canonical (written k.high k.low) k
  written_form = cases (is_mapped k.high k.low) decimals_form groups_form

  -- and nothing else is
  form_decimals : {s l : List ℕ} → l ≡ key_groups_lem → Form mixed s l → is_mapped k.high k.low ≡ true → s ≡ written k.high k.low
  unfolding mapped_text joined
  form_decimals q form e =
      let x : ℕ = k.low % 2 ^ 32 in
      let v : (0 * 65536 + x / 65536) * 65536 + x % 65536 ≡ x = omega arith in
      mixed_text (x / 65536) (x % 65536) form (q ∙ mapped_groups k.high k.low e)
      ∙ ap (λ (y : ℕ). ascii "::ffff:" ++ dotted_text y) v
      ∙ sym (written_mapped k.high k.low e)

  by_notation : {s l : List ℕ} {m : Notation} → l ≡ key_groups_lem → Noted l m → Form m s l → s ≡ written k.high k.low
  by_notation q (under m) form = cases (is_mapped k.high k.low) (form_decimals q form) (λ e. absurd (mapped_not e (rw q at m)))
  by_notation q (other n) form =
      cases (is_mapped k.high k.low) (λ e. absurd (n (rw (q, mapped_groups k.high k.low e) (mapped _ _))))
      (λ e. form_text form ∙ ap text_of q ∙ sym (written_plain k.high k.low e))

  pub form_written : (s : List ℕ) → Canonical s k → s ≡ written k.high k.low
  form_written s c =
      let h = spells_small c.spells in
      let q : c.groups ≡ key_groups_lem =
      (joined_once 0 0 c.groups key_groups_lem h.0 (key_small k f) (unfold four_groups in h.1) (c.address ∙ sym (joined_key k))).1
      in
      by_notation q c.noted c.form
