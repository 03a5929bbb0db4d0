-- Clause 10.1: the settings of the program's table.
use Rattle.std.specs.Prelude.{ℕ}
use Rattle.settings.specs.Sizes.{table_bytes}
use Rattle.settings.specs.declared.settings.Settings.{Settings}

abbrev pub program : Settings
program = record { w = 128; bii = 8; sib = 4; nob = 64; sio = 3; val = 8; a = 97; b = 31 }

-- the bytes of its table
unfoldable pub program_bytes : ℕ
program_bytes = table_bytes program
