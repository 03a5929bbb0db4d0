-- Clauses 5.1 and 5.2: a list followed to its end, and damage.
use Rattle.std.specs.Prelude.{ℕ, zero, suc, Bool, cond, List, [], ◌∷◌, ◌++◌, take, eqb, ltb}
use Rattle.std.proofs.Math.Option.{Option, none, some}
use Rattle.laws.specs.Folds.{every}
use Rattle.settings.specs.declared.layout.Layout.{Layout}
use Rattle.table.specs.State.{Basic, Overflow, State, basic_at, overflow_at, unpack, own_slots}
use Rattle.table.specs.declared.step.Step.{Step}
use Rattle.table.specs.declared.step.Step.TheVariants.{Last, Further, Damage}

-- the last of a list that is not empty, and the last but one of a list of two or more
abbrev pub last_of : ℕ → List ℕ → ℕ
last_of b [] = b
last_of b (c ∷ cs) = last_of c cs

abbrev pub prev_of : ℕ → ℕ → List ℕ → ℕ
prev_of b c [] = b
prev_of b c (d ∷ ds) = prev_of c d ds

-- what a list holds: the numbers of its overflow blocks, and its slots in use
pub record Content : Type 0 where
  pub blocks : List ℕ
  pub slots : List ℕ

abbrev pub mk_content : List ℕ → List ℕ → Content
mk_content bs es = record { blocks = bs; slots = es }

abbrev pub cons? : ℕ → Option (List ℕ) → Option (List ℕ)
cons? b none = none
cons? b (some bs) = some (b ∷ bs)

-- block c comes next
abbrev pub further : ℕ → Step
further c = Further (record { 0 = c })

-- what an overflow block with counter c and link l says of the way on (clause 4.5); a counter above sio is damage
unfoldable pub step_of : ℕ → ℕ → ℕ → Step
step_of sio c l = cond (ltb c sio) Last (cond (eqb c sio) (further l) Damage)

-- after a block whose step is given: xs, if that was the last, or what `on` says of the next block
abbrev pub go_on : Step → List ℕ → (ℕ → Option (List ℕ)) → Option (List ℕ)
go_on Last xs on = some xs
go_on (Further c) xs on = on c.0
go_on Damage xs on = none

-- block b belongs to list i
abbrev pub is_own : ℕ → List Overflow → ℕ → Bool
is_own i os b = eqb (overflow_at os b).owner i

-- the blocks of list i that were followed; one with another list's number is damage (clause 5.2)
abbrev pub own_blocks : ℕ → List Overflow → Option (List ℕ) → Option (List ℕ)
own_blocks i os none = none
own_blocks i os (some bs) = cond (every (is_own i os) bs) (some bs) none

module _ (g : Layout) where
  -- the step of block b
  abbrev pub step_at : List Overflow → ℕ → Step
  step_at os b = step_of g.sio (overflow_at os b).counter (overflow_at os b).link

  -- the overflow blocks from b to the list's end. None is damage (clause 5.2): an overflow counter, a link, or too many blocks
  abbrev pub follow : ℕ → List Overflow → ℕ → Option (List ℕ)
  follow zero os b = none
  follow (suc n) os b = cond (ltb b g.nob) (go_on (step_at os b) (b ∷ []) (λ c. cons? b (follow n os c))) none

  abbrev pub gather : List Overflow → List ℕ → List ℕ
  gather os [] = []
  gather os (b ∷ bs) = take (suc (overflow_at os b).counter) (overflow_at os b).slots ++ gather os bs

  -- clause 4.9: displaced bits stand in the link of the list's last block
  abbrev pub content_over : Basic → List Overflow → Option (List ℕ) → Option Content
  content_over b os none = none
  content_over b os (some []) = none
  content_over b os (some (c ∷ cs)) =
      some (mk_content (c ∷ cs) (unpack g (overflow_at os (last_of c cs)).link b.rest ++ gather os (c ∷ cs)))

  -- list i, whose basic block is b (clause 4.4). None is damage: a basic counter above sib + 1 too
  abbrev pub content_of : ℕ → Basic → List Overflow → Option Content
  content_of i b os =
      let on = content_over b os (own_blocks i os (follow g.nob os b.head)) in
      cond (ltb b.counter (suc g.sib))
      (some (mk_content [] (take b.counter (own_slots g b))))
      (cond (eqb b.counter (suc g.sib)) on none)

  -- list i, followed to its end
  unfoldable pub content : State → ℕ → Option Content
  content st i = content_of i (basic_at st.basic i) st.overflow
