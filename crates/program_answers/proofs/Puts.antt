-- Texts put one behind the other.
use mathlib.Core.Path.{◌≡◌, refl, sym, ap, ◌∙◌}
use mathlib.Core.List.{List, [], ◌∷◌, ◌++◌, append_assoc}
use Prim.Native.Nat.{ℕ, suc, ◌+◌, ◌-◌, ◌≤◌, ◌<◌}
use native.Mathlib.Numerals.{add-one}
use native.Mathlib.Omega.{arith}
use lib.ListN.{length, get_or, set, take, drop, length-append}
use lib.Seq.{take-suc, take-suc-set, drop-drop, drop-set-lt}
use Rattle.laws.specs.Lists.{take_stored}
use Rattle.settings.specs.declared.refusal.Refusal.{Refusal}
use Rattle.settings.specs.Reply.{Reply, reply, answering, Gives}
use Rattle.keys.specs.declared.Key.{Key}
use Rattle.program_answers.specs.Answer.{answer_room, refused_text, answer_text}
use Rattle.program_answers.specs.Steps.{Put, Wrote, Answered}
use Rattle.table.specs.Answer.{Answer}

-- lists that agree from n on agree from any later place on
pub rest_more : (n m : ℕ) (a b : List ℕ) → n ≤ m → drop n a ≡ drop n b → drop m a ≡ drop m b
rest_more n m a b h e =
    let k : n + (m - n) ≡ m = omega arith in
    ap (λ (j : ℕ). drop j a) (sym k) ∙ sym (drop-drop (m - n) n a) ∙ ap (drop (m - n)) e ∙ drop-drop (m - n) n b ∙ ap (λ (j : ℕ). drop j b) k

-- one byte
pub put_byte : (out : List ℕ) (at x : ℕ) → at < length out → Put (x ∷ []) out at (set out at x) (at + 1)
put_byte out at x h = record { end = refl; is = take_stored out at x h; rest = drop-set-lt (at + 1) out at x (omega arith) }

-- one byte more of a text
pub put_more : (text out₀ out : List ℕ) (at i : ℕ) → i < length text → at + i < length out → take (at + i) out ≡ take at out₀ ++ take i text
    → take (at + (i + 1)) (set out (at + i) (get_or text i 0)) ≡ take at out₀ ++ take (i + 1) text
put_more text out₀ out at i ht ho e =
    let n : at + (i + 1) ≡ suc (at + i) = omega arith in
    rw (n, add-one i, take-suc text i 0 ht)
    (take-suc-set out (at + i) (get_or text i 0) ho ∙ ap (λ (l : List ℕ). l ++ get_or text i 0 ∷ []) e
    ∙ append_assoc (take at out₀) (take i text) (get_or text i 0 ∷ []))

-- a text and then another
pub put_then : {a b out out₁ out₂ : List ℕ} {at r₁ r₂ : ℕ} → Put a out at out₁ r₁ → Put b out₁ r₁ out₂ r₂ → Put (a ++ b) out at out₂ r₂
put_then {a} {b} {out} {out₁} {out₂} {at} {r₁} {r₂} p q =
    record {
      end = omega (arith, p.end, q.end, length-append a b);
      is = q.is ∙ ap (λ (l : List ℕ). l ++ b) p.is ∙ append_assoc (take at out) a b;
      rest = q.rest ∙ rest_more r₁ r₂ out₁ out (omega (arith, q.end)) p.rest;
    }

-- the same text, by another name
pub put_as : {a b out out₁ : List ℕ} {at r : ℕ} → a ≡ b → Put a out at out₁ r → Put b out at out₁ r
put_as {a} {b} {out} {out₁} {at} {r} e p = rw e at p

-- from the start
pub put_wrote : {text out out₁ : List ℕ} {r : ℕ} → Put text out 0 out₁ r → length text ≤ answer_room → Wrote text out₁ r
put_wrote {text} {out} {out₁} {r} p h = record { room = omega (arith, p.end); is = p.is }

-- behind what was written from the start
pub wrote_then : {a b out₁ out₂ : List ℕ} {r₁ r₂ : ℕ} → take r₁ out₁ ≡ a → Put b out₁ r₁ out₂ r₂ → r₂ ≤ answer_room → Wrote (a ++ b) out₂ r₂
wrote_then {a} {b} {out₁} {out₂} {r₁} {r₂} e q h = record { room = h; is = q.is ∙ ap (λ (l : List ℕ). l ++ b) e }

-- the text of what a call answers
pub answered_given : (k : Key) {o : Reply Answer} {a : Answer} {text u out : List ℕ} {r : ℕ} → Gives o a u → answer_text k a ≡ text → Wrote text out r
    → Answered (answering (answer_text k) o) u out r
answered_given k g e p = record { text = rw (ap (answer_text k) (sym g.answer) ∙ e) p; bytes = g.bytes }

-- the same reply, by another name
pub answered_as : {o o' : Reply (List ℕ)} {u out : List ℕ} {r : ℕ} → o ≡ o' → Answered o' u out r → Answered o u out r
answered_as e a = rw e a

-- a refusal leaves the table
pub answered_refused : {o : Reply (List ℕ)} {t out : List ℕ} {r : ℕ} (why : Refusal) → o ≡ reply (refused_text why) t → Wrote (refused_text why) out r → Answered o t out r
answered_refused why e p = answered_as e (record { text = p; bytes = refl })
