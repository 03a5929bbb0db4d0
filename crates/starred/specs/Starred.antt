-- The examples that are proved, in one list: section 11 of docs/SPECIFICATION.md, and others.
use Rattle.std.specs.Prelude.{◌≡◌, refl, List, [], ◌∷◌, ◌++◌, ℕ, ◌+◌, ◌*◌, ◌%◌, Err, None, Ok}
use Prim.Native.String.{String}
use Rattle.settings.specs.Prime.{prime_above}
use Rattle.keys.specs.Key.{hash}
use Rattle.keys.specs.theory.Examples.{remainder_of_7, hash_of_7}
use Rattle.settings.specs.declared.settings.Settings.{Settings}
use Rattle.keys.specs.declared.Key.{Key}
use Rattle.settings.specs.declared.refusal.Refusal.TheVariants as refusal
use Rattle.settings.specs.Reply.{reply}
use Rattle.table.specs.Calls.{Verb, find, enter, relabel, delete, make_call, key_call, retrieve_call}
use Rattle.table.specs.theory.Computing as tables
use Rattle.table.specs.Answer.{said, RecordAnswer, recorded, Answer}
use Rattle.table.specs.declared.answers.Word.TheVariants as word
use Rattle.text_read.specs.Answers.{reading_of}
use Rattle.text_write.specs.Ascii.{ascii}
use Rattle.text_calls.specs.theory.Computing as texts

-- Claims ---------------------------------------------------------------------------------------------------------------------

pub data Claim : Type 0 where
  -- make writes this table into any lent bytes of its size: here into bytes of ones
  makes : List ℕ → Claim
  -- entering the keys in turn gives that table
  enters : List ℕ → List ℕ → List ℕ → Claim
  -- the call with the key on the table is answered so
  answers : List ℕ → Verb → ℕ → Answer → Claim
  -- deleting the key from the table gives that table
  deletes : List ℕ → ℕ → List ℕ → Claim
  -- retrieve of the slot on the table is answered so
  retrieves : List ℕ → ℕ → RecordAnswer → Claim
  -- under the settings, the call with the key on the table is answered so, and gives that table
  gives : Settings → List ℕ → Verb → ℕ → Answer → List ℕ → Claim
  -- under the settings, the entry's remainder modulo p is this, and its low bii bits are that
  remainder_is : Settings → ℕ → ℕ → ℕ → Claim
  -- the text is legal, and is read as this key
  legal : String → Key → Claim
  -- the text is refused: not a legal address
  not_legal : String → Claim
  -- the address that the text is read as is written so
  is_written : String → String → Claim

-- table T of section 11, of 42 bits
abbrev pub T : Settings
T = record { w = 6; bii = 1; sib = 2; nob = 2; sio = 1; val = 0; a = 1; b = 1 }

abbrev pub key : ℕ → Key
key n = record { high = 0; low = n }

-- the keys entered in turn, each with label 0
abbrev pub enter_all : List ℕ → List ℕ → List ℕ
enter_all t [] = t
enter_all t (k ∷ ks) = enter_all (key_call T t (enter 0) (key k)).bytes ks

abbrev pub Holds : Claim → Type 0
Holds (makes u) = (make_call T (0xff ∷ 0xff ∷ 0xff ∷ 0xff ∷ 0xff ∷ 0xff ∷ [])).bytes ≡ u
Holds (enters t ks u) = enter_all t ks ≡ u
Holds (answers t v k r) = (key_call T t v (key k)).answer ≡ r
Holds (deletes t k u) = (key_call T t delete (key k)).bytes ≡ u
Holds (retrieves t n r) = retrieve_call T t n ≡ r
Holds (gives s t v k r u) = key_call s t v (key k) ≡ reply r u
Holds (remainder_is s e r h) = ((s.a * e + s.b) % prime_above s.bii ≡ r) × (hash s e ≡ h)
Holds (legal x k) = reading_of (ascii x) ≡ Ok k
Holds (not_legal x) = reading_of (ascii x) ≡ Err refusal.Text
Holds (is_written x y) = texts.again (reading_of (ascii x)) ≡ ascii y

abbrev pub All : List Claim → Type 0
All [] = Unit {0}
All (c ∷ l) = Holds c × All l

-- The list -------------------------------------------------------------------------------------------------------------------

abbrev pub new : List ℕ
new = 0x00 ∷ 0x00 ∷ 0x00 ∷ 0x10 ∷ 0x10 ∷ 0x00 ∷ []

abbrev pub three : List ℕ
three = 0x70 ∷ 0x88 ∷ 0x00 ∷ 0x01 ∷ 0x10 ∷ 0x00 ∷ []

abbrev pub four : List ℕ
four = 0xb0 ∷ 0x88 ∷ 0x00 ∷ 0x31 ∷ 0x01 ∷ 0x40 ∷ []

abbrev pub five : List ℕ
five = 0xb0 ∷ 0x89 ∷ 0x00 ∷ 0x31 ∷ 0x01 ∷ 0x40 ∷ []

abbrev pub after_delete : List ℕ
after_delete = 0x72 ∷ 0x88 ∷ 0x00 ∷ 0x01 ∷ 0x10 ∷ 0x00 ∷ []

-- `three` with a free start above nob: damage, where the free chain is looked at
abbrev pub broken : List ℕ
broken = 0xf0 ∷ 0x88 ∷ 0x00 ∷ 0x01 ∷ 0x10 ∷ 0x00 ∷ []

-- `four` with the number of list 1 in overflow block 1, which list 0 goes on to
abbrev pub strange : List ℕ
strange = 0xb0 ∷ 0x88 ∷ 0x00 ∷ 0x31 ∷ 0x09 ∷ 0x40 ∷ []

-- table T with three index bits
abbrev pub three_bits : Settings
three_bits = record { w = 6; bii = 3; sib = 2; nob = 2; sio = 1; val = 0; a = 1; b = 1 }

abbrev pub of_tables : List Claim
of_tables =
    makes new
    ∷ enters new (1 ∷ 2 ∷ 4 ∷ []) three
    ∷ answers new (enter 0) 1 (said word.Added 0 0 0)
    ∷ answers (enter_all new (1 ∷ [])) (enter 0) 2 (said word.Added 0 1 1)
    ∷ answers (enter_all new (1 ∷ 2 ∷ [])) (enter 0) 4 (said word.Added 0 2 4)
    ∷ enters three (5 ∷ []) four
    ∷ answers three (enter 0) 5 (said word.Added 0 3 5)
    ∷ answers four (enter 0) 32 (Err refusal.NoBlock)
    ∷ answers four (enter 0) 0 (said word.Added 0 0 2)
    ∷ enters four (0 ∷ []) five
    ∷ deletes four 1 after_delete
    ∷ answers after_delete find 4 (said word.Held 0 3 4)
    ∷ answers after_delete find 5 (said word.Held 0 1 0)
    -- a key that is held: refusal 12 comes before 8, and before the free chain is looked at
    ∷ answers four (enter 0) 4 (Err refusal.Known)
    ∷ answers broken (enter 0) 4 (Err refusal.Known)
    ∷ answers broken (enter 0) 5 (Err refusal.Damage)
    ∷ []

-- slots 0 to 3 are those of the basic blocks, 4 and 5 those of the overflow blocks
abbrev pub of_slots : List Claim
of_slots =
    retrieves five 0 (recorded (key 1) 0)
    ∷ retrieves five 1 (recorded (key 2) 0)
    ∷ retrieves five 2 (recorded (key 0) 0)
    ∷ retrieves five 3 (Ok None)
    ∷ retrieves five 4 (recorded (key 4) 0)
    ∷ retrieves five 5 (recorded (key 5) 0)
    ∷ retrieves five 6 (Err refusal.Slot)
    -- a block that is free
    ∷ retrieves three 5 (Ok None)
    -- a block with another list's number is damage where it is followed; the list that it names does not contain it
    ∷ answers strange find 1 (Err refusal.Damage)
    ∷ retrieves strange 4 (Err refusal.Damage)
    ∷ retrieves strange 5 (Ok None)
    ∷ []

-- a link has three bits, and a slot an entry of two and a label of two: of the slot of a basic block that overflows, the entry and the label's first
-- bit are displaced
abbrev pub short_slots : Settings
short_slots = record { w = 3; bii = 1; sib = 1; nob = 5; sio = 1; val = 2; a = 1; b = 1 }

abbrev pub one_label : List ℕ
one_label = 0x0a ∷ 0x80 ∷ 0x20 ∷ 0x20 ∷ 0x18 ∷ 0x10 ∷ 0x08 ∷ 0x00 ∷ []

abbrev pub two_labels : List ℕ
two_labels = 0x30 ∷ 0x80 ∷ 0x4b ∷ 0x20 ∷ 0x18 ∷ 0x10 ∷ 0x08 ∷ 0x00 ∷ []

-- the label's first bit changes in the last block's link, its second in the basic block
abbrev pub after_relabel : List ℕ
after_relabel = 0x30 ∷ 0x00 ∷ 0x6b ∷ 0x20 ∷ 0x18 ∷ 0x10 ∷ 0x08 ∷ 0x00 ∷ []

abbrev pub of_labels : List Claim
of_labels =
    gives short_slots one_label (enter 3) 2 (said word.Added 3 1 2) two_labels
    ∷ gives short_slots two_labels (relabel 2) 1 (said word.Relabelled 1 1 0) after_relabel
    ∷ gives short_slots after_relabel find 1 (said word.Held 2 1 0) after_relabel
    ∷ gives short_slots after_relabel (relabel 0) 4 (said word.None 0 2 0) after_relabel
    ∷ []

abbrev pub of_texts : List Claim
of_texts =
    legal "1:2:3:4:5:6:7::" (record { high = 0x0001_0002_0003_0004; low = 0x0005_0006_0007_0000 })
    ∷ not_legal "1:2:3:4:5:6:7:8::"
    ∷ not_legal ":1::"
    ∷ is_written "2001:0:0:1:0:0:0:1" "2001:0:0:1::1"
    ∷ is_written "2001:db8:0:1:1:1:1:1" "2001:db8:0:1:1:1:1:1"
    ∷ not_legal "::256.0.0.1"
    ∷ []

abbrev pub starred : List Claim
starred = of_tables ++ of_slots ++ of_labels ++ (remainder_is three_bits 7 8 0 ∷ []) ++ of_texts

-- Every starred example holds ------------------------------------------------------------------------------------------------

all_append : (xs ys : List Claim) → All xs → All ys → All (xs ++ ys)
all_append [] ys a b = b
all_append (x ∷ xs) ys a b = (a.0, all_append xs ys a.1 b)

tables_hold : All of_tables
unfolding tables.computing
tables_hold = (refl, (refl, (refl, (refl, (refl, (refl, (refl, (refl, (refl, (refl, (refl, (refl, (refl, (refl, (refl, (refl, tt))))))))))))))))

slots_hold : All of_slots
unfolding tables.computing
slots_hold = (refl, (refl, (refl, (refl, (refl, (refl, (refl, (refl, (refl, (refl, (refl, tt)))))))))))

labels_hold : All of_labels
unfolding tables.computing
labels_hold = (refl, (refl, (refl, (refl, tt))))

remainder_holds : All (remainder_is three_bits 7 8 0 ∷ [])
remainder_holds = ((remainder_of_7 three_bits refl refl refl, hash_of_7 three_bits refl refl refl), tt)

texts_hold : All of_texts
unfolding texts.computing
texts_hold = (refl, (refl, (refl, (refl, (refl, (refl, tt))))))

pub starred_hold : All starred
starred_hold =
    all_append (of_tables ++ of_slots ++ of_labels ++ (remainder_is three_bits 7 8 0 ∷ [])) of_texts
    (all_append (of_tables ++ of_slots ++ of_labels) (remainder_is three_bits 7 8 0 ∷ [])
    (all_append (of_tables ++ of_slots) of_labels (all_append of_tables of_slots tables_hold slots_hold) labels_hold) remainder_holds)
    texts_hold
