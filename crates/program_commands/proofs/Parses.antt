-- The command in a line, by what its parser has found.
use mathlib.Core.Path.{◌≡◌, refl, ap, ◌∙◌}
use mathlib.Core.Bool.{true, false, cond}
use mathlib.Core.List.{List, [], ◌∷◌, ◌++◌}
use mathlib.Core.Option.{Option, none, some}
use Prim.Native.Nat.{ℕ, suc, ◌+◌, ◌-◌, ◌≤◌, ◌<◌}
use native.Mathlib.Omega.{arith}
use lib.ListN.{length, get_or, take, drop, length-drop}
use lib.Seq.{take_all}
use lib.Dec.{eqb, leb, ltb}
use borrow.Author.Tests.{ltb-true, ltb-false, ne_eqb}
use Rattle.laws.specs.Cases.{cases, cond_same}
use Rattle.program_lines.specs.Ends.{before, first_from}
use Rattle.program_lines.specs.theory.Ends.{first_after, first_le}
use Rattle.std.specs.declared.option.Option.TheVariants as answer
use Rattle.program_commands.specs.Fields.{space, fields}
use Rattle.program_commands.specs.Command.{mk_command, op_of, label_of, addressed, takes_label, missing_label, with_label, asked, spelled, longest_line, command_of}
use Rattle.program_commands.specs.Steps.{label_read, label_room, Begins, Labelled, spaceless, address_in, requested, Asks}
use Rattle.program_commands.specs.declared.command.Op.{Op}
use Rattle.program_commands.specs.declared.command.Op.TheVariants as op
use Rattle.program_commands.specs.declared.command.Request.{Request}
use Rattle.program_commands.specs.theory.Fields.{Some, fields_some, fields_one, fields_join, cut_first, has_space, Several, fields_more}
use Rattle.program_commands.proofs.Places.{first_at, first_same, address_length, parted, Room, room}
use Rattle.program_commands.proofs.Labels.{label_long, read_as_none, read_as_some}
use Rattle.program_commands.specs.theory.Asked.{fielded, asked_alone, asked_labelled}

-- What fields ask for --------------------------------------------------------------------------------------------------

addressed_none : (x : List ℕ) → addressed x none ≡ none
addressed_none [] = refl
addressed_none (b ∷ x) = refl

module _ (c : ℕ) where
  -- with three fields or more there is none
  many : (fs gs : List (List ℕ)) → Several fs → Some gs → asked c (fs ++ gs) ≡ none
  many fs gs s t = rw (s.is, t.is) (go s.others)
    where
      go : (os : List (List ℕ)) → asked c (s.first ∷ s.second ∷ (os ++ t.first ∷ t.others)) ≡ none
      go [] = unfold asked in refl
      go (o ∷ os) = unfold asked in refl

  -- with an empty address there is none
  no_address : (fs : List (List ℕ)) → asked c ([] ∷ fs) ≡ none
  no_address [] = unfold asked in refl
  no_address (f ∷ []) = unfold asked in refl
  no_address (f ∷ g ∷ fs) = unfold asked in refl

  -- with one field there is a command, with more there is not
  alone : (o : Op) (s : List ℕ) → op_of c ≡ some o → 1 ≤ length s → (spaceless s ≡ false → asked c (fields s) ≡ none)
      → asked c (fields s) ≡ cond (spaceless s) (some (mk_command o s (missing_label o))) none
  alone o s p h f =
      cases (spaceless s) (λ t. rw t (asked_alone c o s p t h)) (λ t. rw (t, f t))

  -- a byte that stands for nothing, or for an op without a label, has no second field
  no_second : ((x : List ℕ) (m : Option ℕ) → with_label (op_of c) x m ≡ none) → (fs : List (List ℕ)) → Several fs → asked c fs ≡ none
  no_second e fs s = rw s.is (go s.others)
    where
      go : (os : List (List ℕ)) → asked c (s.first ∷ s.second ∷ os) ≡ none
      go [] = unfold asked in rw (e s.first (label_of s.second)) (addressed_none s.first)
      go (o ∷ os) = unfold asked in refl

  -- no command begins with c
  no_op : op_of c ≡ none → (fs : List (List ℕ)) → asked c fs ≡ none
  no_op p [] = unfold asked in refl
  no_op p (x ∷ []) = unfold asked in rw p (addressed_none x)
  no_op p (x ∷ y ∷ fs) = no_second (λ a m. rw p) (x ∷ y ∷ fs) (record { first = x; second = y; others = fs; is = refl })

-- an op that takes none, with a label
no_label_taken : (o : Op) → takes_label o ≡ false → (x : List ℕ) (m : Option ℕ) → with_label (some o) x m ≡ none
no_label_taken o e x none = refl
no_label_taken o e x (some n) = rw e

-- what a second field y of an op that takes a label asks for
module _ (c : ℕ) (o : Op) (p : op_of c ≡ some o) (x y : List ℕ) where
  second : label_of y ≡ none → asked c (fields (x ++ space ∷ y)) ≡ none
  second e =
      rw (fields_join x y)
      (cases (spaceless x) (λ t. rw (fields_one x t) (cases (spaceless y)
      (λ u. rw (fields_one y u) (unfold asked in rw (e, p) (addressed_none x)))
      (λ u. let s = fields_more y u in rw s.is (unfold asked in refl))))
      (λ t. many c (fields x) (fields y) (fields_more x t) (fields_some y)))

  labelled : (v : ℕ) → takes_label o ≡ true → label_of y ≡ some v → 1 ≤ length x
      → asked c (fields (x ++ space ∷ y)) ≡ cond (spaceless x) (some (mk_command o x v)) none
  labelled v q e h =
      cases (spaceless x) (λ t. rw t (asked_labelled c o x y v p q e t h))
      (λ t. rw (t, fields_join x y) (many c (fields x) (fields y) (fields_more x t) (fields_some y)))

-- The lines that are no command, by their first bytes ------------------------------------------------------------------

not_spelled : (l : List ℕ) → spelled l ≡ none → command_of l ≡ none
unfolding command_of
not_spelled l e = rw e (cond_same (leb (length l) longest_line) none)

pub malformed : (l : List ℕ) → command_of l ≡ none → Asks l answer.None
malformed l e = record { is = e ∙ (unfold requested in refl); bounded = tt }

pub short_line : (l : List ℕ) → length l < 3 → command_of l ≡ none
short_line l h = not_spelled l (go l h)
  where
    go : (l : List ℕ) → length l < 3 → spelled l ≡ none
    go [] h = unfold spelled in refl
    go (c ∷ []) h = unfold spelled in refl
    go (c ∷ d ∷ []) h = unfold spelled fields in rw (no_address c []) (cond_same (eqb d space) none)
    go (c ∷ d ∷ e ∷ l) h = absurd (omega arith)

pub unspaced_line : (l : List ℕ) → (get_or l 1 0 ≡ space → ⊥) → command_of l ≡ none
unspaced_line l n = not_spelled l (go l n)
  where
    go : (l : List ℕ) → (get_or l 1 0 ≡ space → ⊥) → spelled l ≡ none
    go [] n = unfold spelled in refl
    go (c ∷ []) n = unfold spelled in refl
    go (c ∷ d ∷ l) n = unfold spelled in rw (ne_eqb d space n)

-- The lines that begin well --------------------------------------------------------------------------------------------

begun : (l : List ℕ) (c : ℕ) → Begins l c → command_of l ≡ asked c (fields (drop 2 l))
begun l c b = go l b.low b.high b.first b.second
  where
    go : (l : List ℕ) → 3 ≤ length l → length l ≤ longest_line → get_or l 0 0 ≡ c → get_or l 1 0 ≡ space → command_of l ≡ asked c (fields (drop 2 l))
    go [] low high first second = absurd (omega arith)
    go (x ∷ []) low high first second = absurd (omega arith)
    go (x ∷ y ∷ s) low high first second = rw (first, second) (fielded c s high)

-- the address that goes to the end of the line
whole : (l : List ℕ) (e : ℕ) → e ≡ length l → address_in l e ≡ drop 2 l
whole l e h = take_all (e - 2) (drop 2 l) (omega (arith, length-drop 2 l))

abbrev pub asks_for : Op → ℕ → ℕ → Request
asks_for o e v = record { op = o; end = e; label = v }

module _ (l : List ℕ) (c : ℕ) (b : Begins l c) where
  -- none of the four commands
  pub unknown_line : (c ≡ 43 → ⊥) → (c ≡ 45 → ⊥) → (c ≡ 63 → ⊥) → (c ≡ 61 → ⊥) → command_of l ≡ none
  unknown_line f g h i =
      let p : op_of c ≡ none = unfold op_of in rw (ne_eqb c 43 f, ne_eqb c 61 i, ne_eqb c 45 g, ne_eqb c 63 h) in
      begun l c b ∙ no_op c p (fields (drop 2 l))

  -- an address that goes to the end of the line
  alone_asks : (o : Op) (e : ℕ) → op_of c ≡ some o → e ≡ length l → (spaceless (drop 2 l) ≡ false → asked c (fields (drop 2 l)) ≡ none)
      → Asks l (answer.Some (asks_for o e (missing_label o)))
  alone_asks o e p h f = record {
    is = begun l c b ∙ alone c o (drop 2 l) p (omega (arith, length-drop 2 l, b.low)) f ∙ (unfold requested in rw (whole l e h));
    bounded = (omega (arith, b.low), omega arith);
  }

  -- of an op that takes no label
  address_asks : (o : Op) → op_of c ≡ some o → takes_label o ≡ false → Asks l (answer.Some (asks_for o (length l) 0))
  address_asks o p n =
      rw n at
      (alone_asks o (length l) p refl
      (λ t. no_second c (λ x m. rw p (no_label_taken o n x m)) (fields (drop 2 l)) (fields_more (drop 2 l) t)))

module _ (l : List ℕ) where
  pub delete_asks : Begins l 45 → Asks l (answer.Some (asks_for op.Delete (length l) 0))
  unfolding op_of
  delete_asks b = address_asks l 45 b op.Delete refl refl

  pub find_asks : Begins l 63 → Asks l (answer.Some (asks_for op.Find (length l) 0))
  unfolding op_of
  find_asks b = address_asks l 63 b op.Find refl refl

-- "+ " and "= " --------------------------------------------------------------------------------------------------------

module _ (l : List ℕ) (o : Op) (a : Labelled l o) (k e : ℕ) (r : k ≡ label_room (length l)) (f : e ≡ first_from space l k) where
  roomed : Room (length l) k
  roomed = rw r (room (length l) a.begins.low)

  after : k ≤ e
  after = rw f (first_after space l k)

  within : e ≤ length l
  within = rw f (first_le space l k roomed.high)

  -- with no space where a label's could stand, what follows the first space is too long for a label
  too_long : e ≡ length l → spaceless (drop 2 l) ≡ false → asked a.byte (fields (drop 2 l)) ≡ none
  unfolding first_from
  too_long h t =
      let s = drop 2 l in
      let j = before space s in
      let p = has_space s t in
      let q : 2 + j < k = cases (ltb (2 + j) k) (ltb-true (2 + j) k)
      (λ u. let m = ltb-false (2 + j) k u in absurd (omega (arith, first_same space l 2 k roomed.low m, length-drop 2 l))) in
      let n = roomed.far (omega (arith, q)) in
      ap (asked a.byte) (ap fields (cut_first s p).is)
      ∙ second a.byte o a.stands (take j s) (drop (suc j) s) (label_long (drop (suc j) s) (omega (arith, length-drop (suc j) s, length-drop 2 l)))

  pub labelled_alone : e ≡ length l → Asks l (answer.Some (asks_for o e 1))
  labelled_alone h = rw a.takes at (alone_asks l a.byte a.begins o e a.stands h (too_long h))

  module _ (n : e ≡ length l → ⊥) where
    below : e < length l
    below = omega (arith, within)

    two : 2 ≤ e
    two = omega (arith, roomed.low, after)

    spaced : drop 2 l ≡ address_in l e ++ space ∷ drop (e + 1) l
    spaced = parted l e two below (rw f (first_at space l k (rw (← f) below)))

    pub label_fits : (e + 1 ≤ length l) × (length l ≤ e + 1 + 3)
    label_fits = (omega (arith, below), omega (arith, after, roomed.near))

    labelled_with : (v : ℕ) → label_of (drop (e + 1) l) ≡ some v → (e ≡ 2 → ⊥) → Asks l (answer.Some (asks_for o e v))
    labelled_with v p m = record {
      is =
          begun l a.byte a.begins ∙ ap (asked a.byte) (ap fields spaced)
          ∙ (unfold requested in labelled a.byte o a.stands (address_in l e) (drop (e + 1) l) v a.takes p (omega (arith, two, address_length l e two within)));
      bounded = (two, within);
    }

    no_label : label_of (drop (e + 1) l) ≡ none → command_of l ≡ none
    no_label p = begun l a.byte a.begins ∙ ap (asked a.byte) (ap fields spaced) ∙ second a.byte o a.stands (address_in l e) (drop (e + 1) l) p

    unaddressed : e ≡ 2 → command_of l ≡ none
    unaddressed p = begun l a.byte a.begins ∙ ap (asked a.byte) (ap fields spaced) ∙ rw p (unfold fields in no_address a.byte (fields (drop (2 + 1) l)))

    -- by what is read of the label
    abbrev rest : List ℕ
    rest = take (length l - (e + 1)) (drop (e + 1) l)

    rest_is : rest ≡ drop (e + 1) l
    rest_is = take_all (length l - (e + 1)) (drop (e + 1) l) (omega (arith, length-drop (e + 1) l))

    pub rest_fits : length rest ≤ 3
    rest_fits = rw rest_is (omega (arith, length-drop (e + 1) l, label_fits))

    pub labelled_asks : (v : ℕ) → answer.Some v ≡ label_read (label_of rest) → (e ≡ 2 → ⊥) → Asks l (answer.Some (asks_for o e v))
    labelled_asks v p m = labelled_with v (rw rest_is at (read_as_some _ v p)) m

    pub unlabelled : answer.None ≡ label_read (label_of rest) → Asks l answer.None
    unlabelled p = malformed l (no_label (rw rest_is at (read_as_none _ p)))

    pub unaddressed_malformed : e ≡ 2 → Asks l answer.None
    unaddressed_malformed p = malformed l (unaddressed p)
