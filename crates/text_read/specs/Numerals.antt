-- The two kinds of number in an address text.
use Rattle.std.specs.Prelude.{ℕ, ◌+◌, ◌*◌, Bool, true, cond, ◌&&◌, not, List, [], ◌∷◌, length, leb, ltb, eqb}
use Rattle.std.proofs.Math.Option.{Option, none, some}
use Rattle.text_read.specs.Class.{class_of}

-- every byte of the text is a digit to the base b
unfoldable pub digits : ℕ → List ℕ → Bool
digits b [] = true
digits b (x ∷ s) = ltb (class_of x) b && digits b s

-- the number that the digits stand for, where v stands before them
unfoldable pub number : ℕ → ℕ → List ℕ → ℕ
number b v [] = v
number b v (x ∷ s) = number b (v * b + class_of x) s

-- RFC 4291, section 2.2, 1: "the 'x's are one to four hexadecimal digits of the eight 16-bit pieces of the address"
unfoldable pub group : List ℕ → Option ℕ
group s = cond (digits 16 s && leb 1 (length s) && leb (length s) 4) (some (number 16 0 s)) none

-- a text of more than one digit does not begin with 0
unfoldable pub no_leading_zero : List ℕ → Bool
no_leading_zero [] = true
no_leading_zero (x ∷ []) = true
no_leading_zero (x ∷ y ∷ s) = not (eqb (class_of x) 0)

-- RFC 4291, section 2.2, 3: "the 'd's are the decimal values of the four low-order 8-bit pieces of the address".
-- Clause 9.2: from 0 to 255, without a leading zero.
unfoldable pub decimal : List ℕ → Option ℕ
decimal s =
    cond (digits 10 s && leb 1 (length s) && leb (length s) 3 && no_leading_zero s && leb (number 10 0 s) 255) (some (number 10 0 s)) none
