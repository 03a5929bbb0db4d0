-- The text, piece by piece: groups with a colon after each are the groups parted by colons, and one colon more.
use Rattle.std.specs.Prelude.{◌≡◌, refl, List, [], ◌∷◌, ◌++◌, ℕ, ◌+◌, ◌-◌, ◌≤◌, ◌<◌, take, set}
use Rattle.std.proofs.Common.{sym, ap, ◌∙◌, append_assoc, arith, length-drop, length-append, drop_of_length-le, get_or-take, length-take-le, take-take, take_at, take_all, lt-ltb, le-ltb}
use Rattle.std.proofs.Math.ListN.{length, drop, get_or, length-take}
use Rattle.laws.specs.Lists.{drop_next, take_stored}
use Rattle.text_write.specs.Writing.{group_text, trailing, part_text, longest, text_of}
use Rattle.text_write.specs.WriterSteps.{closed_text}

closed_trailing : (l : List ℕ) → 58 ∷ closed_text l ≡ trailing l ++ 58 ∷ []
unfolding closed_text trailing
closed_trailing [] = refl
closed_trailing (g ∷ l) = rw (closed_trailing l) (sym (append_assoc (58 ∷ group_text g) (trailing l) (58 ∷ [])))

closed_is : (l : List ℕ) → 0 < length l → closed_text l ≡ part_text l ++ 58 ∷ []
unfolding closed_text part_text
closed_is [] h = absurd (let z : ⊥ = omega arith in z)
closed_is (g ∷ l) h = rw (closed_trailing l) (sym (append_assoc (group_text g) (trailing l) (58 ∷ [])))

-- the groups from i up to `to`
module _ (g : List ℕ) (i to : ℕ) where
  pub closed_none : to ≤ i → closed_text (drop i (take to g)) ≡ []
  unfolding closed_text
  closed_none h =
      let l : length (take to g) ≤ i = omega (arith, length-take to g) in
      rw (drop_of_length-le (take to g) l)

  pub closed_next : i < to → to ≤ length g
      → closed_text (drop i (take to g)) ≡ (group_text (get_or g i 0) ++ 58 ∷ []) ++ closed_text (drop (i + 1) (take to g))
  unfolding closed_text
  closed_next h l =
      let d : drop i (take to g) ≡ get_or g i 0 ∷ drop (i + 1) (take to g) =
      drop_next (take to g) i 0 (omega (arith, length-take to g)) ∙ rw (get_or-take to g i 0 h)
      in
      rw d (sym (append_assoc (group_text (get_or g i 0)) (58 ∷ []) (closed_text (drop (i + 1) (take to g)))))

-- a step of the loop over groups
pub one_step : (s s' x l l' : List ℕ) → s' ≡ s ++ x → l ≡ x ++ l' → s' ++ l' ≡ s ++ l
one_step s s' x l l' p e = rw (p, e) (append_assoc s x l')

-- the last byte is left out
last_off : (o p : List ℕ) (r v : ℕ) → r ≤ length o → take r o ≡ p ++ v ∷ [] → (0 < r) × (take (r - 1) o ≡ p)
last_off o p r v h e =
    let n : r ≡ length p + 1 = sym (length-take-le r o h) ∙ ap length e ∙ length-append p (v ∷ []) in
    let m : length p ≡ r - 1 = omega arith in
    (omega arith, sym (take-take (r - 1) r o (omega arith)) ∙ rw e (take_at p (v ∷ []) (r - 1) m))

-- the text of all groups
module _ (g : List ℕ) where
  pub text_plain : (longest g).1 < 2 → text_of g ≡ part_text g
  unfolding text_of
  text_plain h = rw (lt-ltb (longest g).1 2 h)

  pub text_gap : 2 ≤ (longest g).1
      → text_of g ≡ part_text (take (longest g).0 g) ++ 58 ∷ 58 ∷ part_text (drop ((longest g).0 + (longest g).1) g)
  unfolding text_of
  text_gap h = rw (le-ltb (longest g).1 2 h)

-- the groups from `from` on, which end the text: the colon after the last is left out
pub rest_put : (g t o : List ℕ) (from r : ℕ) → length g ≡ 8 → from < 8 → r ≤ length o → take r o ≡ t ++ closed_text (drop from (take 8 g))
    → (0 < r) × (take (r - 1) o ≡ t ++ part_text (drop from g))
rest_put g t o from r e h k p =
    let l : length g ≤ 8 = omega arith in
    let c : closed_text (drop from (take 8 g)) ≡ part_text (drop from g) ++ 58 ∷ [] =
    rw (take_all 8 g l) (closed_is (drop from g) (omega (arith, length-drop from g)))
    in
    last_off o (t ++ part_text (drop from g)) r 58 k (p ∙ rw c (sym (append_assoc t (part_text (drop from g)) (58 ∷ []))))

-- the groups before `to`, which begin it
pub closed_front : (g : List ℕ) (to : ℕ) → to ≤ length g → 0 < to → closed_text (take to g) ≡ part_text (take to g) ++ 58 ∷ []
closed_front g to l h = closed_is (take to g) (omega (arith, length-take to g))

pub part_none : (g : List ℕ) (i : ℕ) → length g ≤ i → part_text (drop i g) ≡ []
unfolding part_text
part_none g i h = rw (drop_of_length-le g h)

-- the second colon of "::" and the groups after it
pub gap_put : (g o : List ℕ) (a s n : ℕ) → s ≡ (longest g).0 → n ≡ (longest g).1 → a < length o → 2 ≤ n
    → take a o ≡ part_text (take s g) ++ 58 ∷ [] → take (a + 1) (set o a 58) ++ part_text (drop (s + n) g) ≡ text_of g
gap_put g o a s n p q h k e =
    let m : 2 ≤ (longest g).1 = omega arith in
    rw (take_stored o a 58 h, e, text_gap g m, p, q) (simp append_assoc)
