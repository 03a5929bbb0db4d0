-- Clauses 8.6 and 8.7: what the set itself refuses, where no refusal for inputs is due. Theory proves that there is nothing else.
use Rattle.std.specs.Prelude.{◌≡◌, true, ◌&&◌, List, ℕ}
use Rattle.std.proofs.Math.Option.{none, some}
use Rattle.settings.specs.declared.settings.Settings.{Settings}
use Rattle.settings.specs.declared.refusal.Refusal.{Refusal}
use Rattle.settings.specs.declared.refusal.Refusal.TheVariants as refusal
use Rattle.keys.specs.Key.{list_number}
use Rattle.table.specs.Calls.{Verb, enter}
use Rattle.plain_set.specs.Rebuilt.{Pair}
use Rattle.plain_set.specs.Set.{lookup, list_length, no_vacant_slot, all_blocks_used}

-- beside the set ps, a call with the legal key k
pub data OwnRefusal (s : Settings) (ps : List Pair) : Verb → ℕ → Refusal → Type 0 where
  -- 12: enter of a key that is in the set
  known : (l k m : ℕ) → lookup k ps ≡ some m → OwnRefusal s ps (enter l) k refusal.Known
  -- 8: enter of one that is not, where a block is needed and none is free
  no_block : (l k : ℕ) → lookup k ps ≡ none → no_vacant_slot s (list_length s ps (list_number s k)) && all_blocks_used s ps ≡ true
      → OwnRefusal s ps (enter l) k refusal.NoBlock
