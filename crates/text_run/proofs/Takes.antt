-- What is taken of a text, by what is legal.
use Rattle.settings.specs.declared.refusal.Refusal.{Refusal}
use Rattle.std.specs.Prelude.{◌≡◌, refl, List, [], ◌++◌, ℕ, ◌≤◌, ◌<◌, length, take, leb, Result, Ok, Err}
use Rattle.std.proofs.Common.{sym, ap, ◌∙◌, append-nil, arith, length-take-le, take_all, leb-true, leb-false}
use Rattle.laws.specs.Cases.{cases}
use Rattle.keys.specs.declared.Key.{Key}
use Rattle.settings.specs.declared.refusal.Refusal.TheVariants as refusal
use Rattle.text_read.specs.Class.{other}
use Rattle.text_read.specs.Answers.{reading_of}
use Rattle.text_read.specs.theory.Splits.{Without}
use Rattle.text_read.proofs.Spaces.{read_classes}
use Rattle.text_read.proofs.Lengths.{read_length}
use Rattle.text_read.specs.theory.Answers.{unread}
use Rattle.text_run.specs.Run.{run}
use Rattle.text_run.specs.Answers.{taking, taken_of}
use Rattle.text_run.specs.theory.Run.{Stops, run_stops, run_take, run_front}
use Rattle.text_run.specs.declared.Taken.{Taken}

-- a legal text is taken whatever stops it
pub taken_stops : (s t : List ℕ) (k : Key) → reading_of s ≡ Ok k → Stops t → taken_of (s ++ t) ≡ Ok (record { key = k; bytes = length s })
unfolding taken_of taking
taken_stops s t k e h = rw (run_stops s t (read_classes s k e) h, e)

-- a text that is legal as a whole is taken whole
pub taken_whole : (s : List ℕ) (k : Key) → reading_of s ≡ Ok k → taken_of s ≡ Ok (record { key = k; bytes = length s })
taken_whole s k e = ap taken_of (sym (append-nil s)) ∙ taken_stops s [] k e tt

-- what is taken is legal as a whole, and has 2 to 45 bytes
pub record Legal (s : List ℕ) (k : Key) (n : ℕ) : Type 0 where
  pub legal : reading_of (take n s) ≡ Ok k
  pub least : 2 ≤ n
  pub most : n ≤ 45

pub taken_legal : (s : List ℕ) (k : Key) (n : ℕ) → taken_of s ≡ Ok (record { key = k; bytes = n }) → Legal s k n
unfolding taken_of taking
taken_legal s k n e = go (reading_of (run s)) refl e
  where
    of_run : reading_of (run s) ≡ Ok k → length (run s) ≡ n → Legal s k n
    of_run r l =
        let b = read_length (run s) k r in
        record { legal = rw (← l, run_take s) r; least = omega (arith, b.0); most = omega (arith, b.1) }

    go : (p : Result Key Refusal) → reading_of (run s) ≡ p → taking (length (run s)) p ≡ Ok (record { key = k; bytes = n }) → Legal s k n
    go (Ok j) r e =
        let t : (let u : Taken = record { key = j; bytes = length (run s) } in u) ≡ record { key = k; bytes = n } = cc in
        of_run (r ∙ ap Ok (ap (λ (u : Taken). u.key) t)) (ap (λ (u : Taken). u.bytes) t)
    go (Err why) r e = absurd (let z : ◌≡◌ {A = ℕ} 0 1 = cc in omega arith)

-- "still refuse 4 if bytes follow the run": such a text is not legal as a whole
pub followed_refused : (s : List ℕ) → length (run s) < length s → reading_of s ≡ Err refusal.Text
followed_refused s h = unread s (λ k e. omega (arith, h, ap length (whole (read_classes s k e))))
  where
    whole : Without other s → run s ≡ s
    whole w = ap run (sym (append-nil s)) ∙ run_stops s [] w tt

-- the first 46 bytes decide: with a longer run than 45 bytes a text is refused, however it goes on
pub taken_front : (s : List ℕ) → taken_of (take 46 s) ≡ taken_of s
unfolding taken_of taking
taken_front s =
    cases (leb (length (run s)) 46)
    (λ e. rw (run_front 46 s, take_all 46 (run s) (leb-true _ _ e)))
    (λ e. let h = leb-false (length (run s)) 46 e in
    rw (long (run s) (omega arith), long (run (take 46 s)) (front h)))
  where
    long : (x : List ℕ) → 45 < length x → reading_of x ≡ Err refusal.Text
    long x h = unread x (λ k e. omega (arith, h, (read_length x k e).1))

    front : 46 < length (run s) → 45 < length (run (take 46 s))
    front h = rw (run_front 46 s) (omega (arith, length-take-le 46 (run s) (omega (arith, h))))
