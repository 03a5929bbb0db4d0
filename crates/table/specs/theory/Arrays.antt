-- Laws of rows: tabulated, and packed into one number.
use Rattle.std.specs.Prelude.{◌≡◌, refl, ◌≢◌, List, ◌∷◌, map, ℕ, zero, suc, ◌+◌, ◌*◌, ◌^◌, ◌<◌, length, get_or, set}
use Rattle.std.proofs.Common.{sym, ap, ap₂, ◌∙◌, arith}
use Rattle.bits.specs.Field.{field}
use Rattle.bits.specs.theory.Fields.{field_cat}
use Rattle.table.specs.Arrays.{tabulate, packed}

module _ {A : Type 0} where
  pub length_tab : (n : ℕ) (f : ℕ → A) → length (tabulate n f) ≡ n
  length_tab zero f = refl
  length_tab (suc n) f = ap suc (length_tab n (λ i. f (suc i)))

  pub get_or_tab : (n : ℕ) (f : ℕ → A) (i : ℕ) (d : A) → i < n → get_or (tabulate n f) i d ≡ f i
  get_or_tab zero f i d h = absurd (omega arith)
  get_or_tab (suc n) f zero d h = refl
  get_or_tab (suc n) f (suc i) d h = get_or_tab n (λ j. f (suc j)) i d (omega arith)

  pub tab_ext : (n : ℕ) (f g : ℕ → A) → ((j : ℕ) → j < n → g j ≡ f j) → tabulate n g ≡ tabulate n f
  tab_ext zero f g h = refl
  tab_ext (suc n) f g h = ap₂ ◌∷◌ (h 0 (omega arith)) (tab_ext n (λ i. f (suc i)) (λ i. g (suc i)) (λ j l. h (suc j) (omega arith)))

  pub tab_set : (n : ℕ) (f g : ℕ → A) (i : ℕ) → ((j : ℕ) → j < n → j ≢ i → g j ≡ f j) → tabulate n g ≡ set (tabulate n f) i (g i)
  tab_set zero f g i h = refl
  tab_set (suc n) f g zero h = ap (g 0 ∷◌) (tab_ext n (λ i. f (suc i)) (λ i. g (suc i)) (λ j l. h (suc j) (omega arith) (λ q. omega arith)))
  tab_set (suc n) f g (suc i) h =
      ap₂ ◌∷◌ (h 0 (omega arith) (λ q. omega arith))
      (tab_set n (λ j. f (suc j)) (λ j. g (suc j)) i (λ j l ne. h (suc j) (omega arith) (λ q. ne (omega arith))))

pub map_tab : {A B : Type 0} (n : ℕ) (f : A → B) (g : ℕ → A) → map f (tabulate n g) ≡ tabulate n (λ i. f (g i))
map_tab zero f g = refl
map_tab (suc n) f g = ap (f (g 0) ∷◌) (map_tab n f (λ i. g (suc i)))

pub fields_packed : (t : List ℕ) (w n off : ℕ) → field t off (n * w) ≡ packed w (tabulate n (λ k. field t (off + k * w) w))
unfolding field
fields_packed t w zero off = let e : 0 * w ≡ 0 = omega arith in ap (field t off) e
fields_packed t w (suc n) off =
    let e : suc n * w ≡ w + n * w = omega arith in
    let z : off ≡ off + 0 * w = omega arith in
    let q : tabulate n (λ k. field t (off + suc k * w) w) ≡ tabulate n (λ k. field t (off + w + k * w) w) =
    tab_ext n (λ k. field t (off + w + k * w) w) (λ k. field t (off + suc k * w) w) (λ j l. let d : off + suc j * w ≡ off + w + j * w = omega arith in ap (λ (x : ℕ). field t x w) d) in
    ap (field t off) e
    ∙ field_cat t off w (n * w)
    ∙ ap₂ (λ (x y : ℕ). x + y)
    (ap₂ (λ (x y : ℕ). field t x w * 2 ^ (y * w)) z (sym (length_tab n (λ k. field t (off + suc k * w) w))))
    (fields_packed t w n (off + w) ∙ ap (packed w) (sym q))
