-- Remainders by p: numbers that leave the same one may stand for each other in sums and products.
use mathlib.Core.Path.{◌≡◌, refl, sym, ap, ap₂, ◌∙◌}
use Prim.Native.Nat.{ℕ, ◌+◌, ◌*◌, ◌/◌, ◌%◌, ◌^◌}
use native.Mathlib.Omega.{arith}
use native.Mathlib.Nat.{add-mod, mul-add, mul_assoc, mul-add-mod_self_right, div-add-mod'}

record Same (p a b : ℕ) : Type 0 where
  leaves : a % p ≡ b % p

self : {p a : ℕ} → Same p a a
self = record { leaves = refl }

add : {p a b c d : ℕ} → Same p a b → Same p c d → Same p (a + c) (b + d)
add {p} {a} {b} {c} {d} h k =
    record { leaves = add-mod a c p ∙ ap₂ (λ (x y : ℕ). (x + y) % p) h.leaves k.leaves ∙ sym (add-mod b d p) }

mul_mod : (p e c : ℕ) → e * c % p ≡ e * (c % p) % p
mul_mod p e c =
    ap (λ (x : ℕ). e * x % p) (sym (div-add-mod' c p))
    ∙ ap (λ (x : ℕ). x % p) (mul-add e (c / p * p) (c % p) ∙ ap (λ (x : ℕ). x + e * (c % p)) (sym (mul_assoc e (c / p) p)))
    ∙ mul-add-mod_self_right (e * (c / p)) p (e * (c % p))

times : {p a b : ℕ} (e : ℕ) → Same p a b → Same p (e * a) (e * b)
times {p} {a} {b} e h =
    record { leaves = mul_mod p e a ∙ ap (λ (x : ℕ). e * x % p) h.leaves ∙ sym (mul_mod p e b) }

words : (h l : ℕ) → l % 2 ^ 32 + l / 2 ^ 32 * 2 ^ 32 + h % 2 ^ 32 * 2 ^ 64 + h / 2 ^ 32 * 2 ^ 96 ≡ h * 2 ^ 64 + l
words h l = omega arith

-- in a * E + b the number E may be folded, word by word of 32 bits, where c₁, c₂ and c₃ leave what the words' powers leave
pub folded_same : (p c₁ c₂ c₃ : ℕ) → c₁ % p ≡ 2 ^ 32 % p → c₂ % p ≡ 2 ^ 64 % p → c₃ % p ≡ 2 ^ 96 % p → (a b h l : ℕ)
    → (a * (l % 2 ^ 32 + l / 2 ^ 32 * c₁ + h % 2 ^ 32 * c₂ + h / 2 ^ 32 * c₃) + b) % p ≡ (a * (h * 2 ^ 64 + l) + b) % p
folded_same p c₁ c₂ c₃ h₁ h₂ h₃ a b h l =
    let s₁ : Same p c₁ (2 ^ 32) = record { leaves = h₁ } in
    let s₂ : Same p c₂ (2 ^ 64) = record { leaves = h₂ } in
    let s₃ : Same p c₃ (2 ^ 96) = record { leaves = h₃ } in
    let sum = add (add (add self (times (l / 2 ^ 32) s₁)) (times (h % 2 ^ 32) s₂)) (times (h / 2 ^ 32) s₃) in
    (add (times a sum) self).leaves ∙ ap (λ (x : ℕ). (a * x + b) % p) (words h l)
