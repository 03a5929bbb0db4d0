-- Worked examples, each by computation.
use Rattle.std.specs.Prelude.{◌≡◌, refl, List, [], ◌∷◌, ℕ}
use Rattle.bits.specs.Field.{bit_at, field}
use Rattle.bits.specs.Put.{replaced, put_bit, put_field}

row : List ℕ
row = 0x01 ∷ 0x23 ∷ 0x45 ∷ 0x67 ∷ 0x89 ∷ 0xab ∷ 0xcd ∷ 0xef ∷ 0xfe ∷ 0xdc ∷ []

-- bit 0 is the top bit of byte 0
top_bit : bit_at (0x80 ∷ 0x00 ∷ []) 0 ≡ 1
unfolding bit_at
top_bit = refl

last_bit : bit_at (0x00 ∷ 0x01 ∷ []) 15 ≡ 1
unfolding bit_at
last_bit = refl

-- the most significant bit first
three_bits_lem : field (0b00110000 ∷ []) 2 3 ≡ 0b110
unfolding field bit_at
three_bits_lem = refl

across_bytes : field row 4 12 ≡ 0x123
unfolding row field bit_at
across_bytes = refl

whole_word : field row 0 64 ≡ 0x0123456789abcdef
unfolding row field bit_at
whole_word = refl

nine_bytes : field row 4 64 ≡ 0x123456789abcdeff
unfolding row field bit_at
nine_bytes = refl

put_three_bits : put_field (0xff ∷ 0xff ∷ []) 6 3 0b010 ≡ 0xfd ∷ 0x7f ∷ []
unfolding put_field put_bit replaced
put_three_bits = refl

put_nine_bytes : put_field row 4 64 0 ≡ 0 ∷ 0 ∷ 0 ∷ 0 ∷ 0 ∷ 0 ∷ 0 ∷ 0 ∷ 0x0e ∷ 0xdc ∷ []
unfolding row put_field put_bit replaced
put_nine_bytes = refl
