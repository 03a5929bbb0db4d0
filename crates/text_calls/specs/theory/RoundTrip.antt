-- What is written is read back as itself, and every legal text has one written form.
use Rattle.std.proofs.Math.Path.{◌≡◌}
use Rattle.std.specs.Prelude.{refl, ◌↔◌, List, ◌++◌, ℕ, ◌+◌, ◌*◌, ◌^◌, ◌<◌, Ok}
use Rattle.std.proofs.Common.{sym, ap, ◌∙◌, mod-lt, div-lt_iff_lt-mul, arith, lit<}
use Rattle.std.proofs.Math.Option.{Option, none, some}
use Rattle.laws.specs.Cases.{cases}
use Rattle.keys.specs.Key.{key_number, key_of}
use Rattle.keys.specs.theory.Keys.{key_number_lem}
use Rattle.keys.specs.declared.Key.{Key}
use Rattle.text_read.specs.Reading.{groups_of, joined}
use Rattle.text_read.specs.Answers.{keyed, reading_of}
use Rattle.text_read.specs.theory.Joined.{Small, joined_append}
use Rattle.text_read.proofs.Grammar.{spells_read}
use Rattle.text_read.specs.Grammar.{Spells}
use Rattle.text_write.specs.Writing.{four_groups, is_mapped, written}
use Rattle.text_write.specs.theory.Mapped.{written_mapped, written_plain}
use Rattle.text_calls.specs.theory.Bounds.{small_append, legal_below}
use Rattle.text_calls.specs.theory.Texts.{text_spells}
use Rattle.text_calls.specs.theory.Mapped.{mapped_spells}

-- a key whose halves have 64 bits each
pub record Fits (k : Key) : Type 0 where
  pub high_below : k.high < 2 ^ 64
  pub low_below : k.low < 2 ^ 64

-- the four groups of a half make the half
joined_four : (v x : ℕ) → joined v (four_groups x) ≡ v * 2 ^ 64 + x
unfolding joined four_groups
joined_four v x = omega arith

-- the groups of a key make its number
pub joined_key : (k : Key) → joined 0 (four_groups k.high ++ four_groups k.low) ≡ key_number k
unfolding key_number
joined_key k = rw (joined_append 0 (four_groups k.high) (four_groups k.low)) (simp joined_four (omega arith))

-- each group is below 65,536
four_small : (x : ℕ) → x < 2 ^ 64 → Small (four_groups x)
unfolding four_groups
four_small x h = (omega arith, (omega arith, (omega arith, (omega arith, tt))))

pub key_small : (k : Key) → Fits k → Small (four_groups k.high ++ four_groups k.low)
key_small k f =
    small_append (four_groups k.high) (four_groups k.low) (four_small k.high f.high_below) (four_small k.low f.low_below)

-- a number below 2 ^ 128 fits a key
pub key_fits : (n : ℕ) → n < 2 ^ 128 → Fits (key_of n)
unfolding key_of
key_fits n h = record { high_below = (div-lt_iff_lt-mul (lit< tt)).1 h; low_below = mod-lt n (lit< tt) }

-- what is written spells the key's groups
pub written_spells : (k : Key) → Fits k → Spells (written k.high k.low) (four_groups k.high ++ four_groups k.low)
written_spells k f =
    cases (is_mapped k.high k.low) (λ t. rw (written_mapped k.high k.low t) (mapped_spells k.high k.low t))
    (λ t. rw (written_plain k.high k.low t) (text_spells (four_groups k.high ++ four_groups k.low) (key_small k f) (unfold four_groups in refl)))

-- reading what is written gives the key back
pub round_trip : (k : Key) → Fits k → reading_of (written k.high k.low) ≡ Ok k
unfolding reading_of keyed
round_trip k f = rw (spells_read (written_spells k f), joined_key k, key_number_lem k f.low_below)

-- two keys never share a written text
pub written_apart : (j k : Key) → Fits j → Fits k → written j.high j.low ≡ written k.high k.low → j ≡ k
written_apart j k f g e =
    let p : Ok j ≡ Ok k = sym (round_trip j f) ∙ ap reading_of e ∙ round_trip k g in
    cc

-- a legal text's key fits
pub reading_fits : (s : List ℕ) (k : Key) → reading_of s ≡ Ok k → Fits k
unfolding reading_of
reading_fits s k e = go (groups_of s) refl e
  where
    go : (o : Option (List ℕ)) → groups_of s ≡ o → keyed o ≡ Ok k → Fits k
    go none g e = unfold keyed in (let z : ◌≡◌ {A = ℕ} 0 1 = cc in absurd (omega arith))
    go (some l) g e = unfold keyed in (let q : key_of (joined 0 l) ≡ k = cc in rw q at (key_fits (joined 0 l) (legal_below s l g)))

-- One written text -------------------------------------------------------------------------------------------------------

-- what is read and written again is read as the same
pub rewritten : (s : List ℕ) (k : Key) → reading_of s ≡ Ok k → reading_of (written k.high k.low) ≡ reading_of s
rewritten s k e = round_trip k (reading_fits s k e) ∙ sym e

-- two legal texts are read as one address exactly if they are written again as one text
pub canonical : (s t : List ℕ) (j k : Key) → reading_of s ≡ Ok j → reading_of t ≡ Ok k
    → (reading_of s ≡ reading_of t) ↔ (written j.high j.low ≡ written k.high k.low)
canonical s t j k e f = (
  λ r. let p : Ok j ≡ Ok k = sym e ∙ r ∙ f in let q : j ≡ k = cc in rw q,
  λ w. let q = written_apart j k (reading_fits s j e) (reading_fits t k f) w in e ∙ ap Ok q ∙ sym f,
)
