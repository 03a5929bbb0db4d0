-- The steps by which a new table is made.
use Rattle.std.specs.Prelude.{ℕ, zero, suc, List}
use Rattle.bits.specs.Put.{put_field}
use Rattle.settings.specs.declared.layout.Layout.{Layout}
use Rattle.table.specs.Decode.{link_at}
use Rattle.table.specs.New.{new_overflow}

-- the bytes t with the first n overflow blocks linked as free blocks
unfoldable pub linked : Layout → ℕ → List ℕ → List ℕ
linked g zero t = t
linked g (suc n) t = put_field (linked g n t) (link_at g n) g.link (new_overflow g n).link
