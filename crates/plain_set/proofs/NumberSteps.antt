-- The calls on a state that holds lists, and the numbers of slots: a call that takes no entry out leaves each entry its number, and a number that it
-- answers is that of the key's entry in the state after it.
use Rattle.std.specs.Prelude.{◌≡◌, refl, ◌≢◌, true, false, List, [], ◌∷◌, ◌++◌, ℕ, ◌+◌, ◌*◌, ◌^◌, ◌≤◌, ◌<◌, length, get_or, set, eqb}
use Rattle.std.proofs.Common.{sym, ap, ◌∙◌, subst, arith, length-set, get_or-set_same, get_or-set_other, eqb-true}
use Rattle.std.proofs.Math.Option.{none, some}
use Rattle.std.proofs.Math.ListN.{get_or-append}
use Rattle.std.proofs.Math.Seq.{get_or-append_seam}
use Rattle.std.proofs.lemmas.List.{set-get_or}
use Rattle.std.proofs.lemmas.Bool.{eqb-false}
use Rattle.laws.specs.Cases.{cases, never}
use Rattle.laws.specs.Options.{nothing}
use Rattle.settings.specs.declared.settings.Settings.{Settings}
use Rattle.settings.specs.declared.layout.Layout.{Layout}
use Rattle.settings.specs.Legal.{Legal}
use Rattle.settings.specs.Layout.{layout_of}
use Rattle.settings.specs.theory.Proper.{layout_proper}
use Rattle.settings.specs.theory.Dues.{NoneDue}
use Rattle.keys.specs.Key.{entry, list_number}
use Rattle.table.specs.State.{State, basic_at, entry_of}
use Rattle.table.specs.Follow.{Content, mk_content, content}
use Rattle.table.specs.Numbers.{slot_number}
use Rattle.table.specs.Done.{Done, Answered, unchanged}
use Rattle.table.specs.Store.{store_at}
use Rattle.table.specs.Find.{find_followed, find_in}
use Rattle.table.specs.Enter.{enter_followed, enter_in}
use Rattle.table.specs.Relabel.{relabel_followed, relabel_in}
use Rattle.table.specs.Delete.{delete_followed, delete_in}
use Rattle.table.specs.Calls.{Verb, find, enter, relabel, delete, list_call, verb_due}
use Rattle.plain_set.specs.Numbers.{number_in, is_gone}
use Rattle.plain_set.specs.theory.Pad.{length_snoc}
use Rattle.plain_set.specs.theory.Rep.{Rep, Stores}
use Rattle.plain_set.specs.theory.Follow.{holds_length}
use Rattle.plain_set.specs.theory.Change.{Extended, rep_content, append_refused, append_done, store_done, delete_done}
use Rattle.plain_set.specs.theory.Numbers.{number_front}
use Rattle.plain_set.specs.theory.Keys.{slot_fits, slot_entry, in_table}
use Rattle.plain_set.proofs.Refusals.{label_below}
use Rattle.plain_set.specs.theory.OneList.{place_in, slot_for}
use Rattle.plain_set.proofs.Lists.{row_of, holds_key, place_there, place_entry, is_full}
use Rattle.plain_set.proofs.StateSteps.{state_after}
use Rattle.table.specs.Answer.{Answer}

module _ (g : Layout) where
  -- n is the number of a slot of list i that holds the entry e
  pub record Numbered (st : State) (i e n : ℕ) : Type 0 where
    pub list : Content
    pub followed : content g st i ≡ some list
    pub place : ℕ
    pub there : place < length list.slots
    pub entry : entry_of g (get_or list.slots place 0) ≡ e
    pub number : n ≡ slot_number g i list.blocks place

  -- the number that is answered
  answers : {st : State} {i e m : ℕ} → Numbered st i e m → (n : ℕ) → some m ≡ some n → Numbered st i e n
  answers {st} {i} {e} {m} x n q = let z : m ≡ n = cc in subst (Numbered st i e) z x

  -- a call on st that is answered a, with a key that has the entry e in list i
  pub record Keeps (st : State) (i e : ℕ) (a : Answered) : Type 0 where
    -- unless it takes an entry out, each entry of each list keeps its number
    pub stays : is_gone a.answer ≡ false → (j f n : ℕ) → j < g.lists → Numbered st j f n → Numbered (state_after st a.after) j f n
    -- and a number that is answered is that of the key's entry
    pub told : (n : ℕ) → number_in a.answer ≡ some n → Numbered (state_after st a.after) i e n

  -- an answer without a number that changes nothing
  keeps_all : (st : State) (i e : ℕ) (a : Answer) → number_in a ≡ none → Keeps st i e (unchanged a)
  keeps_all st i e a z = record { stays = λ q j f n h w. w; told = λ n q. nothing (sym z ∙ q) }

  -- One list --------------------------------------------------------------------------------------------------------------------

  -- place p of list i, which holds v before the call and w after it
  record Lasts (i : ℕ) (v w : Content) (p : ℕ) : Type 0 where
    there : p < length w.slots
    entry : entry_of g (get_or w.slots p 0) ≡ entry_of g (get_or v.slots p 0)
    number : slot_number g i w.blocks p ≡ slot_number g i v.blocks p

  lasts : {st u : State} {i : ℕ} (v w : Content) → content g st i ≡ some v → content g u i ≡ some w
      → ((p : ℕ) → p < length v.slots → Lasts i v w p) → (f n : ℕ) → Numbered st i f n → Numbered u i f n
  lasts {i = i} v w a b h f n x =
      let z : v ≡ x.list = cc in
      let l : x.place < length v.slots = rw z x.there in
      let k = h x.place l in
      record {
        list = w;
        followed = b;
        place = x.place;
        there = k.there;
        entry = k.entry ∙ ap (λ (c : Content). entry_of g (get_or c.slots x.place 0)) z ∙ x.entry;
        number = x.number ∙ ap (λ (c : Content). slot_number g i c.blocks x.place) (sym z) ∙ sym k.number;
      }

  -- a list that is followed to the same end
  same_list : {st u : State} {i f n : ℕ} → content g u i ≡ content g st i → Numbered st i f n → Numbered u i f n
  same_list e x =
      record {
        list = x.list;
        followed = e ∙ x.followed;
        place = x.place;
        there = x.there;
        entry = x.entry;
        number = x.number;
      }

  -- list i after a change
  changed_list : {st u : State} {T B : List (List ℕ)} {fs ns : List ℕ} (i : ℕ) (es cs : List ℕ) → i < g.lists
      → Rep g st T B fs → Rep g u (set T i es) (set B i cs) ns → content g u i ≡ some (mk_content cs es)
  changed_list {T = T} {B = B} i es cs h r q =
      rw (rep_content q i h, get_or-set_same B i cs [] (omega (arith, r.blocks)), get_or-set_same T i es [] (omega (arith, r.lists)))

  -- a change of list i alone, whose places last
  change_lasts : {st u : State} {T B : List (List ℕ)} {fs ns : List ℕ} (i : ℕ) (es cs : List ℕ) → i < g.lists
      → Rep g st T B fs → Rep g u (set T i es) (set B i cs) ns
      → ((p : ℕ) → p < length (get_or T i []) → Lasts i (mk_content (get_or B i []) (get_or T i [])) (mk_content cs es) p)
      → (j f n : ℕ) → j < g.lists → Numbered st j f n → Numbered u j f n
  change_lasts {T = T} {B = B} i es cs h r q k j f n l x =
      cases (eqb j i)
      (λ e.
      let z : j ≡ i = eqb-true j i e in
      rw z
      (lasts (mk_content (get_or B i []) (get_or T i [])) (mk_content cs es) (rep_content r i h) (changed_list i es cs h r q) k f n (rw z at x)))
      (λ e.
      let other : j ≢ i = eqb-false j i e in
      same_list (rw (rep_content q j l, rep_content r j l, get_or-set_other B i j cs [] other, get_or-set_other T i j es [] other)) x)

-- The calls ----------------------------------------------------------------------------------------------------------------------

module _ (s : Settings) (legal : Legal s) {st : State} {T : List (List ℕ)} (o : Stores (layout_of s) st T) (k : ℕ) (ok : k < 2 ^ s.w) where
  abbrev g : Layout
  g = layout_of s

  abbrev i : ℕ
  i = list_number s k

  abbrev es : List ℕ
  es = row_of s T k

  abbrev bs : List ℕ
  bs = get_or o.B i []

  below : i < g.lists
  below = in_table s legal k ok

  -- the number of the key's entry
  found_told : holds_key s T k ≡ true → Numbered g st i (entry s k) (slot_number g i bs (place_in s k es))
  found_told e =
      record {
        list = mk_content bs es;
        followed = rep_content o.rep i below;
        place = place_in s k es;
        there = place_there s T k e;
        entry = place_entry s T k e;
        number = refl;
      }

  -- the slot of the key with a label l
  module _ (l : ℕ) (high : l < 2 ^ s.val) where
    abbrev x : ℕ
    x = slot_for s k l

    -- at the list's end
    module _ {d : Done} (c : Extended g st o.B i d (set T i (es ++ x ∷ []))) where
      -- a place of the list that is one longer has the number that it has in its blocks and the first free one
      end_number_lem : (p : ℕ) → p ≤ length es → slot_number g i (bs ++ st.free ∷ []) p ≡ slot_number g i c.cs p
      end_number_lem p h =
          ap (λ (ys : List ℕ). slot_number g i ys p) (sym c.blocks)
          ∙ number_front g i c.cs c.rest p (omega (arith, length_snoc es x, room))
        where
          room : length (es ++ x ∷ []) ≤ g.sib + g.sio * length c.cs
          room =
              holds_length g i (basic_at c.after.basic i) c.after.overflow c.cs (es ++ x ∷ [])
              (rw (
                get_or-set_same o.B i c.cs [] (omega (arith, below, o.rep.blocks)),
                get_or-set_same T i (es ++ x ∷ []) [] (omega (arith, below, o.rep.lists)),
              )
              at (c.rep.each i below))

      end_lasts : (p : ℕ) → p < length es → Lasts g i (mk_content bs es) (mk_content c.cs (es ++ x ∷ [])) p
      end_lasts p h =
          record {
            there = omega (arith, length_snoc es x);
            entry = ap (entry_of g) (get_or-append es (x ∷ []) 0 p h);
            number =
                sym (end_number_lem p (omega arith))
                ∙ number_front g i bs (st.free ∷ []) p
                (omega (arith, holds_length g i (basic_at st.basic i) st.overflow bs es (o.rep.each i below)));
          }

      end_told : Numbered g c.after i (entry s k) (slot_number g i (bs ++ st.free ∷ []) (length es))
      end_told =
          record {
            list = mk_content c.cs (es ++ x ∷ []);
            followed = changed_list g i (es ++ x ∷ []) c.cs below o.rep c.rep;
            place = length es;
            there = omega (arith, length_snoc es x);
            entry = ap (entry_of g) (get_or-append_seam es x [] 0) ∙ slot_entry s k l high;
            number = end_number_lem (length es) (omega arith);
          }

    -- in the place of the key's entry
    module _ (e : holds_key s T k ≡ true) where
      abbrev p : ℕ
      p = place_in s k es

      abbrev u : State
      u = store_at g st i bs p x

      store_rep : Rep g u (set T i (set es p x)) (set o.B i bs) o.fs
      store_rep =
          rw (set-get_or o.B i []) (store_done (layout_proper s legal) o.rep i below p x (place_there s T k e) (slot_fits s k l high))

      store_lasts : (q : ℕ) → q < length es → Lasts g i (mk_content bs es) (mk_content bs (set es p x)) q
      store_lasts q h =
          record {
            there = omega (arith, length-set es p x);
            entry =
                cases (eqb q p)
                (λ z. rw (eqb-true q p z, get_or-set_same es p x 0 (place_there s T k e)) (slot_entry s k l high ∙ sym (place_entry s T k e)))
                (λ z. ap (entry_of g) (get_or-set_other es p q x 0 (eqb-false q p z)));
            number = refl;
          }

      store_told : Numbered g u i (entry s k) (slot_number g i bs p)
      store_told =
          record {
            list = mk_content bs (set es p x);
            followed = changed_list g i (set es p x) bs below o.rep store_rep;
            place = p;
            there = omega (arith, length-set es p x, place_there s T k e);
            entry = ap (entry_of g) (get_or-set_same es p x 0 (place_there s T k e)) ∙ slot_entry s k l high;
            number = refl;
          }

  -- what each call makes of numbers
  pub call_keeps : (v : Verb) → NoneDue (verb_due s v) → Keeps g st i (entry s k) (list_call g st i (entry s k) v)
  unfolding list_call find_in find_followed enter_in enter_followed relabel_in relabel_followed delete_in delete_followed
  call_keeps find d =
      rw (rep_content o.rep i below)
      (cases (holds_key s T k)
      (λ e. rw e record { stays = λ q j f n h w. w; told = answers g (found_told e) })
      (λ e. rw e (keeps_all g st i (entry s k) _ refl)))
  call_keeps (enter l) d =
      let high = label_below s l d in
      let fits = slot_fits s k l high in
      rw (rep_content o.rep i below)
      (cases (holds_key s T k)
      (λ e. rw e (keeps_all g st i (entry s k) _ refl))
      (λ e.
      cases (is_full s T k)
      (λ q. rw (e, append_refused (layout_proper s legal) o.rep i below (slot_for s k l) fits q) (keeps_all g st i (entry s k) _ refl))
      (λ q.
      let c = append_done (layout_proper s legal) o.rep i below (slot_for s k l) fits q in
      rw (e, c.is) record {
        stays = λ z. change_lasts g i (es ++ slot_for s k l ∷ []) c.cs below o.rep c.rep (end_lasts l high c);
        told = answers g (end_told l high c);
      })))
  call_keeps (relabel l) d =
      let high = label_below s l d in
      rw (rep_content o.rep i below)
      (cases (holds_key s T k)
      (λ e.
      rw e record {
        stays = λ z. change_lasts g i (set es (place_in s k es) (slot_for s k l)) bs below o.rep (store_rep l high e) (store_lasts l high e);
        told = answers g (store_told l high e);
      })
      (λ e. rw e (keeps_all g st i (entry s k) _ refl)))
  call_keeps delete d =
      rw (rep_content o.rep i below)
      (cases (holds_key s T k)
      (λ e.
      let c = delete_done (layout_proper s legal) o.rep i below (place_in s k es) (place_there s T k e) in
      rw (e, c.is) record { stays = λ z. never (sym z); told = λ n z. nothing z })
      (λ e. rw e (keeps_all g st i (entry s k) _ refl)))
