-- What writing a text answers, and what it leaves in the lent bytes.
use Rattle.std.specs.Prelude.{ℕ, Result, Ok, Err, not, List, [], ◌∷◌, ◌++◌, length, drop, leb}
use Rattle.keys.specs.declared.Key.{Key}
use Rattle.settings.specs.declared.refusal.Refusal.{Refusal}
use Rattle.settings.specs.declared.refusal.Refusal.TheVariants as refusal
use Rattle.settings.specs.Due.{due}
use Rattle.settings.specs.Reply.{Reply, reply, called}
use Rattle.text_write.specs.Writing.{written}

-- clause 9.5; 9: fewer bytes are lent than the text has. The bytes behind the text stay
unfoldable pub write_call : Key → List ℕ → Reply (Result ℕ Refusal)
write_call k b =
    let text = written k.high k.low in
    called Err b (due (not (leb (length text) (length b))) refusal.Output ∷ []) (reply (Ok (length text)) (text ++ drop (length text) b))
