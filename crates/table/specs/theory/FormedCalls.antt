-- The calls keep a state formed, sound or not: every field that they write fits its bits.
use Rattle.std.specs.Prelude.{◌≡◌, refl, Bool, true, false, cond, ℕ, zero, suc, ◌-◌, ◌^◌, ◌≤◌, ◌<◌, eqb, ltb, length}
use Rattle.std.proofs.Common.{subst}
use mathlib.Core.List.{List, [], ◌∷◌}
use Rattle.std.proofs.Math.Option.{Option, none, some}
use native.Mathlib.Omega.{arith}
use Rattle.std.proofs.Math.Pow.{pow_pos}
use borrow.Author.Tests.{ltb-true, ltb-false, eqb-false}
use Rattle.settings.specs.Proper.{Proper}
use Rattle.laws.specs.Cases.{cases}
use Rattle.laws.specs.Folds.{every}
use Rattle.settings.specs.declared.layout.Layout.{Layout}
use Rattle.table.specs.State.{Basic, Overflow, State, absent_block, basic_at, overflow_at, rest_bits, slot_of}
use Rattle.table.specs.Updates.{with_front, with_basic_front, over_basic, over_overflow}
use Rattle.table.specs.Follow.{last_of, prev_of, Content, cons?, follow, gather, is_own, own_blocks, content_over, content, go_on, step_at}
use Rattle.table.specs.Find.{position, is_held, label_at, compared_in}
use Rattle.table.specs.Take.{occurs, next_free, taking, freed}
use Rattle.table.specs.Enter.{extended, append, end_number, enter_followed, enter_in}
use Rattle.table.specs.Relabel.{relabel_followed, relabel_in}
use Rattle.table.specs.Delete.{prior_of, handed_back, shrink_at, cannot_free, shrink, delete_followed, delete_in}
use Rattle.table.specs.New.{new_overflow, new_state}
use Rattle.table.specs.Done.{Done, damage, no_block, done, Answered, answered}
use Rattle.table.specs.Store.{store_overflow, store_at}
use Rattle.table.specs.theory.Formed.{All, all_nil, all_cons, all_get_d, all_take, all_append, Each, each_at, each_set, each_tab, Fits, OverflowFits, Formed, basic_fits, overflow_fits}
use Rattle.table.specs.theory.Written.{join_fits}
use Rattle.table.specs.Answer.{said, Answer}
use Rattle.table.specs.declared.answers.Word.TheVariants as word
use Rattle.table.specs.theory.FormedUpdates.{unpack_each, head_fits, rest_fits, formed_free, formed_basic, formed_overflow, counter_fits, link_fits, slot_fits, empty_fits, front_fits, body_fits, own_fits, block_link, block_free, list_owner}
use Rattle.table.specs.Table.{Within}
use Rattle.table.specs.declared.step.Before.{Before}
use Rattle.table.specs.declared.step.Before.TheVariants as prior
use Rattle.table.specs.declared.step.Step.{Step}
use Rattle.table.specs.declared.step.Step.TheVariants.{Last, Further, Damage}

-- ---- what holds of a result, whichever it is

-- of both branches of a test, and so of the test's result
pub either : {A : Type 0} (P : A → Type 0) (t : Bool) {x y : A} → (t ≡ true → P x) → (t ≡ false → P y) → P (cond t x y)
either P true f g = f refl
either P false f g = g refl

-- of what an option holds, if it holds anything
pub data Holds {A : Type 0} (P : A → Type 0) : Option A → Type 0 where
  holds_none : Holds P none
  holds_some : {a : A} → P a → Holds P (some a)

module _ {A : Type 0} {P : A → Type 0} where
  of_some : {a : A} → Holds P (some a) → P a
  of_some (holds_some p) = p

  pub holds_of : {o : Option A} {a : A} → Holds P o → o ≡ some a → P a
  holds_of h e = of_some (subst (Holds P) e h)

-- of the state that a change ends in, if it ends in one
pub data Ends (P : State → Type 0) : Done → Type 0 where
  ends_damage : Ends P damage
  ends_full : Ends P no_block
  ends_done : {u : State} → P u → Ends P (done u)

-- ---- the last of a list

module _ {P : ℕ → Type 0} where
  pub last_all : {c : ℕ} {cs : List ℕ} → All P (c ∷ cs) → P (last_of c cs)
  last_all (all_cons p all_nil) = p
  last_all (all_cons p (all_cons q qs)) = last_all (all_cons q qs)

-- ---- following a list

abbrev pub Below : ℕ → ℕ → Type 0
Below m b = b < m

module _ (g : Layout) where
  -- blocks of the table, at most n of them
  pub record Followed (n : ℕ) (bs : List ℕ) : Type 0 where
    pub below : All (Below g.nob) bs
    pub few : length bs ≤ n

  cons_followed : {b n : ℕ} {o : Option (List ℕ)} → b < g.nob → Holds (Followed n) o → Holds (Followed (suc n)) (cons? b o)
  cons_followed h holds_none = holds_none
  cons_followed h (holds_some f) = holds_some (record { below = all_cons h f.below; few = omega arith })

  -- every block followed is one of the table, and no more are followed than the bound says
  pub follow_holds : (n : ℕ) (os : List Overflow) (b : ℕ) → Holds (Followed n) (follow g n os b)
  follow_holds zero os b = holds_none
  follow_holds (suc n) os b =
      either (Holds (Followed (suc n))) (ltb b g.nob) (λ e. step_holds (ltb-true b g.nob e) (step_at g os b) (follow_holds n os)) (λ e. holds_none)
    where
      step_holds : b < g.nob → (s : Step) → ((c : ℕ) → Holds (Followed n) (follow g n os c))
          → Holds (Followed (suc n)) (go_on s (b ∷ []) (λ c. cons? b (follow g n os c)))
      step_holds h Last f = holds_some (record { below = all_cons h all_nil; few = omega arith })
      step_holds h (Further c) f = cons_followed h (f c.0)
      step_holds h Damage f = holds_none

  pub gather_fits : {os : List Overflow} {bs : List ℕ} → Each (OverflowFits g) g.nob os → All (Below g.nob) bs → All (Fits g.slot) (gather g os bs)
  gather_fits e all_nil = all_nil
  gather_fits {os} e (all_cons {x = b} h hs) =
      all_append (all_take (suc (overflow_at os b).counter) (each_at e absent_block b h).slots.all) (gather_fits e hs)

  -- blocks of the table, and slots that fit
  pub record ContentFits (v : Content) : Type 0 where
    pub blocks : Followed g.nob v.blocks
    pub slots : All (Fits g.slot) v.slots

  over_holds : (b : Basic) {os : List Overflow} {o : Option (List ℕ)} → Each (OverflowFits g) g.nob os → Holds (Followed g.nob) o
      → Holds ContentFits (content_over g b os o)
  over_holds b e holds_none = holds_none
  over_holds b e (holds_some {a = []} f) = holds_none
  over_holds b {os} e (holds_some {a = c ∷ cs} f) =
      holds_some (record { blocks = f; slots = all_append (unpack_each g (overflow_at os (last_of c cs)).link b.rest).all (gather_fits e f.below) })

  -- a list's own blocks are blocks that were followed
  pub own_holds : {P : List ℕ → Type 0} (i : ℕ) (os : List Overflow) {o : Option (List ℕ)} → Holds P o → Holds P (own_blocks i os o)
  own_holds i os holds_none = holds_none
  own_holds {P} i os (holds_some {a = bs} p) = either (Holds P) (every (is_own i os) bs) (λ e. holds_some p) (λ e. holds_none)

  -- the content of a list of a formed state
  pub content_holds : {st : State} → Formed g st → (i : ℕ) → Holds ContentFits (content g st i)
  unfolding content
  content_holds {st} f i =
      let b = basic_at st.basic i in
      either (Holds ContentFits) (ltb b.counter (suc g.sib))
      (λ e. holds_some (record {
        blocks = record { below = all_nil; few = omega arith };
        slots = all_take b.counter (unpack_each g b.head b.rest).all;
      }))
      (λ e. either (Holds ContentFits) (eqb b.counter (suc g.sib))
      (λ c. over_holds b f.overflow (own_holds i st.overflow (follow_holds g.nob st.overflow b.head)))
      (λ c. holds_none))

  pub content_fits : {st : State} (i : ℕ) {v : Content} → Formed g st → content g st i ≡ some v → ContentFits v
  content_fits i f e = holds_of (content_holds f i) e

-- ---- changes

-- displaced bits handed back leave the free start
pub handed_free : (g : Layout) (st : State) (i l : ℕ) (p : Before) → (handed_back g i l p st).free ≡ st.free
unfolding handed_back
handed_free g st i l prior.Basic = refl
handed_free g st i l (prior.Block p) = refl

-- before the last of two or more blocks stands a block
pub prior_is : (c d : ℕ) (ds : List ℕ) → prior_of (prior.Block (record { 0 = c })) d ds ≡ prior.Block (record { 0 = prev_of c d ds })
prior_is c d [] = refl
prior_is c d (e ∷ es) = prior_is d e es

module _ (g : Layout) (F : Proper g) where
  -- ---- blocks taken and freed

  next_fits : (os : List Overflow) (f : ℕ) → (overflow_at os f).link < g.nob → Fits g.basic.start (next_free g os f)
  next_fits os f h =
      either (Fits g.basic.start) (eqb (overflow_at os f).link f) (λ e. F.free_holds) (λ e. block_free F (omega arith))

  taking_ends : {P : State → Type 0} (st : State) (bs : List ℕ) {on : Done}
      → (st.free < g.nob → (overflow_at st.overflow st.free).link < g.nob → Ends P on) → Ends P (taking g st bs on)
  taking_ends {P} st bs k =
      either (Ends P) (ltb g.nob st.free) (λ e. ends_damage)
      (λ e. either (Ends P) (eqb st.free g.nob) (λ c. ends_full)
      (λ c. either (Ends P) (ltb 0 (occurs st.free bs)) (λ d. ends_damage)
      (λ d. either (Ends P) (ltb (overflow_at st.overflow st.free).link g.nob)
      (λ l. k (let m = ltb-false g.nob st.free e in let ne = eqb-false st.free g.nob c in omega arith) (ltb-true (overflow_at st.overflow st.free).link g.nob l))
      (λ l. ends_damage))))

  freed_formed : {st : State} {l : ℕ} → Formed g st → st.free ≤ g.nob → l < g.nob → Formed g (freed g l st)
  freed_formed {st} {l} w k h =
      formed_free
      (formed_overflow l w
      (empty_fits
      (either (Fits g.link) (eqb st.free g.nob) (λ e. block_link F h)
      (λ e. block_link F (let ne = eqb-false st.free g.nob e in omega arith)))
      (pow_pos g.owner)))
      (block_free F (omega arith))

  -- ---- enter's change

  extended_ends : (st : State) {i : ℕ} (bs : List ℕ) {d x : ℕ} (linkTo : ℕ → State → State) → i < g.lists → Fits g.link d → Fits g.slot x
      → ((f : ℕ) → f < g.nob → Formed g (linkTo f st)) → Ends (Formed g) (extended g st i bs d x linkTo)
  extended_ends st bs linkTo h hd hx k =
      taking_ends st bs
      (λ m l. ends_done
      (formed_free (formed_overflow st.free (k st.free m) (slot_fits 0 hx (empty_fits hd (list_owner F h)))) (next_fits st.overflow st.free l)))

  pub append_ends : {st : State} (i : ℕ) {bs : List ℕ} {x : ℕ} → Formed g st → i < g.lists → All (Below g.nob) bs → Fits g.slot x
      → Ends (Formed g) (append g st i bs x)
  unfolding append
  append_ends {st} i f h all_nil p =
      let b = basic_at st.basic i in
      let fits = basic_fits g f i h in
      either (Ends (Formed g)) (ltb b.counter g.sib)
      (λ e. ends_done (formed_basic i f (body_fits F (omega (arith, ltb-true b.counter g.sib e, F.basic_holds)) (each_set (own_fits g b) b.counter p))))
      (λ e. extended_ends st [] (λ f. over_basic i (with_basic_front (suc g.sib) f)) h fits.head p
      (λ j m. formed_basic i f (front_fits F.basic_holds (block_link F m) fits)))
  append_ends {st} i f h (all_cons {x = c} {xs = cs} q qs) p =
      let l = last_of c cs in
      let o = overflow_at st.overflow l in
      let fits = overflow_fits g f l (last_all (all_cons q qs)) in
      either (Ends (Formed g)) (ltb (suc o.counter) g.sio)
      (λ e. ends_done
      (formed_overflow l f (counter_fits (omega (arith, ltb-true (suc o.counter) g.sio e, F.overflow_holds)) (slot_fits (suc o.counter) p fits))))
      (λ e. extended_ends st (c ∷ cs) (λ f. over_overflow l (with_front g.sio f)) h fits.link p
      (λ j m. formed_overflow l f (counter_fits F.overflow_holds (link_fits (block_link F m) fits))))

  -- ---- the changes of relabel and delete

  store_overflow_lem : {os : List Overflow} {bs : List ℕ} (q : ℕ) {x : ℕ} → Each (OverflowFits g) g.nob os → All (Below g.nob) bs → Fits g.slot x
      → Each (OverflowFits g) g.nob (store_overflow g os bs q x)
  unfolding store_overflow
  store_overflow_lem q e all_nil p = e
  store_overflow_lem q e (all_cons {x = b} h hs) p =
      either (Each (OverflowFits g) g.nob) (ltb q g.sio)
      (λ l. each_set e b (slot_fits q p (each_at e absent_block b h)))
      (λ l. store_overflow_lem (q - g.sio) e hs p)

  pub store_formed : {st : State} (i : ℕ) {bs : List ℕ} (k : ℕ) {x : ℕ} → Formed g st → i < g.lists → All (Below g.nob) bs → Fits g.slot x
      → Formed g (store_at g st i bs k x)
  unfolding store_at
  store_formed {st} i k f h all_nil p =
      formed_basic i f (body_fits F (basic_fits g f i h).counter (each_set (own_fits g (basic_at st.basic i)) k p))
  store_formed {st} i k f h (all_cons {x = c} {xs = cs} q qs) p =
      let top = basic_fits g f i h in
      let l = last_of c cs in
      let body = each_set (unpack_each g (overflow_at st.overflow l).link (basic_at st.basic i).rest) k p in
      either (Formed g) (ltb k g.sib)
      (λ e. formed_overflow l
      (formed_basic i f (record { counter = top.counter; head = top.head; rest = rest_fits g _ }))
      (link_fits (head_fits F body) (overflow_fits g f l (last_all (all_cons q qs)))))
      (λ e. record { free = f.free; basic = f.basic; overflow = store_overflow_lem (k - g.sib) f.overflow (all_cons q qs) p })

  handed_formed : {st : State} (i l : ℕ) (p : Before) → Within g p → Formed g st → i < g.lists → l < g.nob → Formed g (handed_back g i l p st)
  unfolding handed_back
  handed_formed i l prior.Basic w f h k =
      formed_basic i f (front_fits (omega (arith, F.basic_holds)) (overflow_fits g f l k).link (basic_fits g f i h))
  handed_formed i l (prior.Block p) w f h k =
      formed_overflow p.0 f
      (counter_fits (omega (arith, F.overflow_holds)) (link_fits (overflow_fits g f l k).link (overflow_fits g f p.0 w)))

  -- what stands before the last of blocks of the table is one of them
  prior_within : (p : Before) {c : ℕ} {cs : List ℕ} → Within g p → All (Below g.nob) (c ∷ cs) → Within g (prior_of p c cs)
  prior_within p w (all_cons q all_nil) = w
  prior_within p w (all_cons {x = c} q (all_cons r rs)) = prior_within (prior.Block (record { 0 = c })) q (all_cons r rs)

  pub shrink_ends : {st : State} (i : ℕ) {bs : List ℕ} → Formed g st → i < g.lists → All (Below g.nob) bs → Ends (Formed g) (shrink g st i bs)
  unfolding shrink cannot_free shrink_at
  shrink_ends {st} i f h all_nil =
      let b = basic_at st.basic i in
      ends_done
      (formed_basic i f (body_fits F {n = b.counter - 1} (omega (arith, (basic_fits g f i h).counter)) (each_set (own_fits g b) (b.counter - 1) (pow_pos g.slot))))
  shrink_ends {st} i f h (all_cons {x = c} {xs = cs} q qs) =
      let l = last_of c cs in
      let o = overflow_at st.overflow l in
      let last = last_all (all_cons q qs) in
      let fits = overflow_fits g f l last in
      cases (ltb 0 o.counter)
      (λ e. rw e
      (ends_done
      (formed_overflow l f (counter_fits {n = o.counter - 1} (omega (arith, fits.counter)) (slot_fits o.counter (pow_pos g.slot) fits)))))
      (λ e. rw e
      (either (Ends (Formed g)) (ltb g.nob st.free) (λ d. ends_damage)
      (λ d. ends_done
      (freed_formed (handed_formed i l (prior_of prior.Basic c cs) (prior_within prior.Basic tt (all_cons q qs)) f h last)
      (omega (arith, handed_free g st i l (prior_of prior.Basic c cs), ltb-false g.nob st.free d)) last))))

  -- ---- the calls

  answered_formed : {d : Done} (a : Answer) → Ends (Formed g) d → Holds (Formed g) (answered a d).after
  answered_formed a ends_damage = holds_none
  answered_formed a ends_full = holds_none
  answered_formed a (ends_done p) = holds_some p

  slotted : {e label : ℕ} → e < 2 ^ g.bie → label < 2 ^ g.val → Fits g.slot (slot_of g e label)
  slotted k l = rw F.slot_is (join_fits g.bie g.val k l)

  enter_followed_lem : {st : State} {o : Option Content} (i e label : ℕ) → Formed g st → i < g.lists → Fits g.slot (slot_of g e label) → Holds (ContentFits g) o
      → Holds (Formed g) (enter_followed g st i e label o).after
  unfolding enter_followed
  enter_followed_lem i e label f h p holds_none = holds_none
  enter_followed_lem {st} i e label f h p (holds_some {a = v} s) =
      either (λ (a : Answered). Holds (Formed g) a.after) (is_held g e v.slots) (λ t. holds_none)
      (λ t. answered_formed (said word.Added label (compared_in g e v.slots) (end_number g st i v)) (append_ends i f h s.blocks.below p))

  pub enter_formed : {st : State} (i e label : ℕ) → Formed g st → i < g.lists → e < 2 ^ g.bie → label < 2 ^ g.val
      → Holds (Formed g) (enter_in g st i e label).after
  unfolding enter_in
  enter_formed i e label f h k l = enter_followed_lem i e label f h (slotted k l) (content_holds g f i)

  relabel_followed_lem : {st : State} {o : Option Content} (i e label : ℕ) → Formed g st → i < g.lists → Fits g.slot (slot_of g e label) → Holds (ContentFits g) o
      → Holds (Formed g) (relabel_followed g st i e label o).after
  unfolding relabel_followed
  relabel_followed_lem i e label f h p holds_none = holds_none
  relabel_followed_lem i e label f h p (holds_some {a = v} s) =
      either (λ (a : Answered). Holds (Formed g) a.after) (is_held g e v.slots)
      (λ t. holds_some (store_formed i (position g e v.slots) f h s.blocks.below p))
      (λ t. holds_none)

  pub relabel_formed : {st : State} (i e label : ℕ) → Formed g st → i < g.lists → e < 2 ^ g.bie → label < 2 ^ g.val
      → Holds (Formed g) (relabel_in g st i e label).after
  unfolding relabel_in
  relabel_formed i e label f h k l = relabel_followed_lem i e label f h (slotted k l) (content_holds g f i)

  delete_followed_lem : {st : State} {o : Option Content} (i e : ℕ) → Formed g st → i < g.lists → Holds (ContentFits g) o
      → Holds (Formed g) (delete_followed g st i e o).after
  unfolding delete_followed
  delete_followed_lem i e f h holds_none = holds_none
  delete_followed_lem i e f h (holds_some {a = v} s) =
      let bl = s.blocks.below in
      let last = all_get_d s.slots (pow_pos g.slot) (length v.slots - 1) in
      either (λ (a : Answered). Holds (Formed g) a.after) (is_held g e v.slots)
      (λ t.
      answered_formed (said word.Gone (label_at g e v.slots) (compared_in g e v.slots) 0)
      (shrink_ends i (store_formed i (position g e v.slots) f h bl last) h bl))
      (λ t. holds_none)

  pub delete_formed : {st : State} (i e : ℕ) → Formed g st → i < g.lists → Holds (Formed g) (delete_in g st i e).after
  unfolding delete_in
  delete_formed i e f h = delete_followed_lem i e f h (content_holds g f i)

  -- the new table
  pub new_formed : Formed g (new_state g)
  unfolding new_state
  new_formed =
      record {
        free = pow_pos g.basic.start;
        basic = each_tab _ (λ i h. record { counter = pow_pos g.basic.counter; head = pow_pos g.link; rest = pow_pos (rest_bits g) });
        overflow = each_tab (new_overflow g) (λ j h.
            empty_fits (either (Fits g.link) (eqb (suc j) g.nob) (λ e. block_link F h) (λ e. block_link F (let ne = eqb-false (suc j) g.nob e in omega arith))) (pow_pos g.owner));
      }
