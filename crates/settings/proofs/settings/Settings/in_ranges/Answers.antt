-- The code's `&` is the definition's `&&`, in other groups.
use Rattle.std.proofs.Common.{◌≡◌, Bool, ◌&&◌, ltb, leb}
use mathlib.Core.Bool.{and_assoc}
use Rattle.settings.specs.Legal.{in_ranges}
use Rattle.settings.specs.declared.settings.Settings.{Settings}
use Rattle.settings.proofs.settings.Settings.in_ranges.Goals as goal

ranges : (s : Settings) {x y z : Bool} → x ≡ (leb 2 s.w && leb s.w 128) → y ≡ (leb 1 s.sib && leb s.sib 255)
    → z ≡ (leb 1 s.sio && leb s.sio 15)
    → (x && leb s.bii 16 && ltb s.bii s.w && y && leb s.nob 65535 && (z && leb s.val 32)) ≡ in_ranges s
unfolding in_ranges
ranges s e f g =
    let w = leb 2 s.w && leb s.w 128 && leb s.bii 16 && ltb s.bii s.w in
    let n = w && leb 1 s.sib && leb s.sib 255 && leb s.nob 65535 in
    let o = leb 1 s.sio && leb s.sio 15 in
    rw (e, f, g, ← and_assoc w (leb 1 s.sib) (leb s.sib 255), ← and_assoc n o (leb s.val 32), ← and_assoc n (leb 1 s.sio) (leb s.sio 15))

pub returns : goal.returns
returns c =
    ranges c.args.self c.between.ensures c.between-2.ensures c.between-3.ensures
