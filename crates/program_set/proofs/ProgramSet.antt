-- The program is the plain set, for every input.
use Rattle.std.specs.Prelude.{◌≡◌, refl, true, false, not, ◌&&◌, List, [], ◌∷◌, ◌++◌, ℕ, ◌^◌, ◌≤◌, leb, ltb, length, replicate, Err, Ok}
use Rattle.std.proofs.Math.Path.{ap}
use Rattle.std.proofs.Common.{ap₂, ◌∙◌, append-nil, arith}
use Rattle.std.proofs.Math.Option.{Option, none, some}
use Rattle.std.proofs.lemmas.List.{length-replicate}
use Rattle.std.proofs.Math.Seq.{take-length, drop-length}
use borrow.Author.Tests.{le-leb, lt-ltb}
use Rattle.laws.specs.Lists.{replicate_at}
use Rattle.settings.specs.declared.settings.Settings.{Settings}
use Rattle.settings.specs.Sizes.{table_bytes}
use Rattle.settings.specs.Legal.{Legal}
use Rattle.settings.specs.Layout.{layout_of}
use Rattle.settings.specs.theory.Legal.{legal_means}
use Rattle.settings.specs.Due.{unless_due}
use Rattle.keys.specs.Key.{key_number, list_number}
use Rattle.keys.specs.theory.Keys.{key_below}
use Rattle.plain_set.specs.Rebuilt.{Pair}
use Rattle.table.specs.Calls.{Verb, find, enter, relabel, delete, verb_due}
use Rattle.table.specs.theory.FormedCalls.{either}
use Rattle.table.specs.theory.Formed.{All, all_nil, all_cons}
use Rattle.text_read.specs.Answers.{reading_of}
use Rattle.text_calls.specs.theory.RoundTrip.{reading_fits}
use Rattle.program_commands.specs.Command.{Command, command_of}
use Rattle.program_answers.specs.Program.{program, program_bytes}
use Rattle.program_answers.specs.Outcome.{verb_of, command_call}
use Rattle.program_answers.specs.Answer.{command_reply, line_reply}
use Rattle.program_answers.specs.theory.Program.{program_legal}
use Rattle.program_stream.specs.Output.{lines_of, answers_to, output_of, new_table, program_output}
use Rattle.program_stream.specs.Run.{joined, Run}
use Rattle.program_stream.specs.theory.Whole.{whole_program}
use Rattle.plain_set.specs.Set.{Call, refused, lookup, no_vacant_slot, list_length, all_blocks_used, Step, step, find_step, enter_step, relabel_step, delete_step, key_step, set_step}
use Rattle.plain_set.specs.Plain.{plain}
use Rattle.plain_set.proofs.Agree.{Agree, agree_holds}
use Rattle.plain_set.proofs.Start.{new_agree}
use Rattle.text_calls.specs.Asked.{Asked, by_text, table_call}
use Rattle.demand3.specs.Claim.{given}
use Rattle.demand3.proofs.Lent.{lent_follows}
use Rattle.program_set.specs.Claim.{call_of, command_step, line_step, key_named, printed, Behaves, set_lines, Line, says, refuses_text, refuses_label, refuses_block, refuses_line, refuses_known}
use Rattle.program_set.proofs.Printed.{command_printed}
use Rattle.std.specs.declared.result.Result.{Result}
use Rattle.settings.specs.declared.refusal.Refusal.{Refusal}
use Rattle.keys.specs.declared.Key.{Key}

lawful : Legal program
lawful = legal_means program program_legal

-- A call that is lent the whole table ----------------------------------------------------------------------------------------

module _ {s : Settings} (right : Legal s) {t : List ℕ} {T : List (List ℕ)} {ps : List Pair} (a : Agree s t T ps) (q : Asked) where
  record Whole : Type 0 where
    answers : plain (table_call s t q).answer ≡ (set_step s (length t) ps (given q)).answer
    after : List (List ℕ)
    agree : Agree s (table_call s t q).bytes after (set_step s (length t) ps (given q)).after

  whole : Whole
  whole =
      let w = lent_follows right a (record { call = q; lent = length t }) in
      record {
        answers = rw (take-length t) at w.answers;
        after = w.after;
        agree = rw (take-length t, drop-length t, append-nil (table_call s t q).bytes) at w.agree;
      }

whole_length : leb (table_bytes program) (table_bytes program) ≡ true
whole_length = le-leb (table_bytes program) (table_bytes program) (omega arith)

-- of the lent table the set asks only whether it is long enough
step_longer : (ps : List Pair) (c : Call) (n : ℕ) → program_bytes ≤ n → set_step program n ps c ≡ set_step program program_bytes ps c
unfolding set_step program_bytes
step_longer ps c n h = rw (le-leb (table_bytes program) n h, whole_length)

-- A line ---------------------------------------------------------------------------------------------------------------------

module _ {t : List ℕ} {T : List (List ℕ)} {ps : List Pair} (a : Agree program t T ps) where
  room : program_bytes ≤ length t
  room = unfold program_bytes in a.room

  record Turn (o : Option Command) : Type 0 where
    line : (command_reply t o).answer ≡ printed t (key_named o) (command_step ps o).answer
    after : List (List ℕ)
    agree : Agree program (command_reply t o).bytes after (command_step ps o).after

  turn : (o : Option Command) → Turn o
  unfolding command_reply command_call
  turn none = record { line = refl; after = T; agree = a }
  turn (some c) =
      let w = whole lawful a (by_text (verb_of c.op c.label) c.address) in
      let e = step_longer ps (call_of c) (length t) room in
      record {
        line = command_printed t room c ∙ ap (printed t (key_named (some c))) (rw e at w.answers);
        after = w.after;
        agree = rw e at w.agree;
      }

-- All lines ------------------------------------------------------------------------------------------------------------------

behaves : {t : List ℕ} {T : List (List ℕ)} {ps : List Pair} → Agree program t T ps → (ls : List (List ℕ)) → Behaves t ps ls
unfolding line_reply
behaves a [] = agree_holds program lawful a
behaves {t = t} {T = T} {ps = ps} a (l ∷ ls) =
    let w = turn a (command_of l) in
    (agree_holds program lawful a, w.line, behaves {t = (command_reply t (command_of l)).bytes} w.agree ls)

-- what is written is the set's lines, one after the other
output_lines : (t : List ℕ) (ps : List Pair) (ls : List (List ℕ)) → Behaves t ps ls → answers_to t ls ≡ joined (set_lines t ps ls)
unfolding answers_to joined
output_lines t ps [] b = refl
output_lines t ps (l ∷ ls) b = ap₂ ◌++◌ b.1 (output_lines (line_reply t l).bytes (line_step ps l).after ls b.2)

-- The program ----------------------------------------------------------------------------------------------------------------

start : Agree program new_table (replicate (layout_of program).lists []) []
unfolding new_table program_bytes
start =
    new_agree program lawful (replicate program_bytes 0) (λ i. rw (replicate_at {A = ℕ} program_bytes i 0) (omega arith))
    (omega (arith, length-replicate {A = ℕ} program_bytes 0))

-- all that the program writes are the set's answers to the lines that it reads
pub program_set : (input : List ℕ) → Behaves new_table [] (lines_of input) × (program_output input ≡ joined (set_lines new_table [] (lines_of input)))
unfolding program_output output_of
program_set input =
    let b = behaves start (lines_of input) in
    (b, output_lines new_table [] (lines_of input) b)

-- in whatever pieces the input is read
pub run_set : {cs : List (List ℕ)} {out : List ℕ} → Run new_table false [] cs out → out ≡ joined (set_lines new_table [] (lines_of (joined cs)))
run_set {cs} run = whole_program run ∙ (program_set (joined cs)).1

-- Its refusals ---------------------------------------------------------------------------------------------------------------

module _ (t : List ℕ) (ps : List Pair) (n : ℕ) where
  -- an answer of the set that is one of the program's lines
  abbrev Prints : Step → Type 0
  Prints b = Line (printed t n b.answer)

  find_prints : (o : Option ℕ) → Prints (find_step program ps o)
  find_prints none = says _ _ _ _
  find_prints (some l) = says _ _ _ _

  delete_prints : (k : ℕ) (o : Option ℕ) → Prints (delete_step program ps k o)
  delete_prints k none = says _ _ _ _
  delete_prints k (some l) = says _ _ _ _

  enter_prints : (k l : ℕ) (o : Option ℕ) → Prints (enter_step program ps k l o)
  enter_prints k l none =
      either Prints (no_vacant_slot program (list_length program ps (list_number program k)) && all_blocks_used program ps)
      (λ q. refuses_block) (λ q. says _ _ _ _)
  enter_prints k l (some m) = refuses_known

  relabel_prints : (k l : ℕ) (o : Option ℕ) → Prints (relabel_step program ps k l o)
  relabel_prints k l none = says _ _ _ _
  relabel_prints k l (some m) = says _ _ _ _

  -- the call with a legal key
  verb_prints : (v : Verb) (k : ℕ) → Prints (unless_due (verb_due program v) (λ why. step (refused why) ps) (key_step program ps v k))
  verb_prints find k = find_prints (lookup k ps)
  verb_prints (enter l) k = either Prints (not (ltb l (2 ^ program.val))) (λ q. refuses_label) (λ q. enter_prints k l (lookup k ps))
  verb_prints (relabel l) k = either Prints (not (ltb l (2 ^ program.val))) (λ q. refuses_label) (λ q. relabel_prints k l (lookup k ps))
  verb_prints delete k = delete_prints k (lookup k ps)

  text_prints : (v : Verb) (x : List ℕ) (p : Result Key Refusal) → reading_of x ≡ p → Prints (set_step program program_bytes ps (given (by_text v x)))
  unfolding set_step program_bytes
  text_prints v x (Ok k) e =
      let f = reading_fits x k e in
      let below = key_below k f.high_below f.low_below in
      rw (e, program_legal, whole_length, lt-ltb (key_number k) (2 ^ 128) below) (verb_prints v (key_number k))
  text_prints v x (Err why) e = rw (e, program_legal, whole_length) refuses_text

  command_prints : (o : Option Command) → Prints (command_step ps o)
  command_prints none = refuses_line
  command_prints (some c) = text_prints (verb_of c.op c.label) c.address (reading_of c.address) refl

all_lines : (t : List ℕ) (ps : List Pair) (ls : List (List ℕ)) → All Line (set_lines t ps ls)
all_lines t ps [] = all_nil
all_lines t ps (l ∷ ls) =
    all_cons (command_prints t ps (key_named (command_of l)) (command_of l)) (all_lines (line_reply t l).bytes (line_step ps l).after ls)

-- every line of the output says a word, or refuses by 4, 6, 8, 11 or 12
pub only_refusals : (input : List ℕ) → All Line (set_lines new_table [] (lines_of input))
only_refusals input = all_lines new_table [] (lines_of input)
