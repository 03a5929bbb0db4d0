-- The RFCs' examples of address texts, texts that are not legal, and texts that go on behind an address, by computation.
use Rattle.std.specs.Prelude.{◌≡◌, refl, List, [], ◌∷◌, map, ℕ, Err, Ok}
use Rattle.std.proofs.Math.Option.{Option, none, some}
use Prim.Native.String.{String}
use Rattle.text_read.specs.Reading.{groups_of}
use Rattle.text_read.specs.Answers.{reading_of}
use Rattle.text_run.specs.Run.{run}
use Rattle.text_run.specs.Answers.{taking, taken_of}
use Rattle.text_write.specs.Writing.{written}
use Rattle.text_write.specs.Ascii.{ascii}
use Rattle.text_calls.specs.theory.Computing.{again, computing}
use Rattle.std.specs.declared.result.Result.{Result}
use Rattle.settings.specs.declared.refusal.Refusal.{Refusal}
use Rattle.text_run.specs.declared.Taken.{Taken}

-- texts and the groups that they spell: RFC 4291, section 2.2
abbrev pub spellings : List (String × List ℕ)
spellings =
    ("ABCD:EF01:2345:6789:ABCD:EF01:2345:6789", 0xabcd ∷ 0xef01 ∷ 0x2345 ∷ 0x6789 ∷ 0xabcd ∷ 0xef01 ∷ 0x2345 ∷ 0x6789 ∷ [])
    ∷ ("2001:DB8:0:0:8:800:200C:417A", 0x2001 ∷ 0xdb8 ∷ 0 ∷ 0 ∷ 8 ∷ 0x800 ∷ 0x200c ∷ 0x417a ∷ [])
    ∷ ("FF01:0:0:0:0:0:0:101", 0xff01 ∷ 0 ∷ 0 ∷ 0 ∷ 0 ∷ 0 ∷ 0 ∷ 0x101 ∷ [])
    ∷ ("0:0:0:0:0:0:0:1", 0 ∷ 0 ∷ 0 ∷ 0 ∷ 0 ∷ 0 ∷ 0 ∷ 1 ∷ [])
    ∷ ("0:0:0:0:0:0:0:0", 0 ∷ 0 ∷ 0 ∷ 0 ∷ 0 ∷ 0 ∷ 0 ∷ 0 ∷ [])
    ∷ ("2001:DB8::8:800:200C:417A", 0x2001 ∷ 0xdb8 ∷ 0 ∷ 0 ∷ 8 ∷ 0x800 ∷ 0x200c ∷ 0x417a ∷ [])
    ∷ ("FF01::101", 0xff01 ∷ 0 ∷ 0 ∷ 0 ∷ 0 ∷ 0 ∷ 0 ∷ 0x101 ∷ [])
    ∷ ("::1", 0 ∷ 0 ∷ 0 ∷ 0 ∷ 0 ∷ 0 ∷ 0 ∷ 1 ∷ [])
    ∷ ("::", 0 ∷ 0 ∷ 0 ∷ 0 ∷ 0 ∷ 0 ∷ 0 ∷ 0 ∷ [])
    ∷ ("0:0:0:0:0:0:13.1.68.3", 0 ∷ 0 ∷ 0 ∷ 0 ∷ 0 ∷ 0 ∷ 0xd01 ∷ 0x4403 ∷ [])
    ∷ ("0:0:0:0:0:FFFF:129.144.52.38", 0 ∷ 0 ∷ 0 ∷ 0 ∷ 0 ∷ 0xffff ∷ 0x8190 ∷ 0x3426 ∷ [])
    ∷ ("::13.1.68.3", 0 ∷ 0 ∷ 0 ∷ 0 ∷ 0 ∷ 0 ∷ 0xd01 ∷ 0x4403 ∷ [])
    ∷ ("::FFFF:129.144.52.38", 0 ∷ 0 ∷ 0 ∷ 0 ∷ 0 ∷ 0xffff ∷ 0x8190 ∷ 0x3426 ∷ [])
    ∷ []

pub spellings_read : map (λ e. groups_of (ascii e.0)) spellings ≡ map (λ e. some e.1) spellings
unfolding computing
spellings_read = refl

-- texts and the form in which their addresses are written: RFC 5952, by section
abbrev pub forms : List (String × String)
forms =
    -- 1
    ("2001:db8:0:0:1:0:0:1", "2001:db8::1:0:0:1")
    ∷ ("2001:0db8:0:0:1:0:0:1", "2001:db8::1:0:0:1")
    ∷ ("2001:db8::1:0:0:1", "2001:db8::1:0:0:1")
    ∷ ("2001:db8::0:1:0:0:1", "2001:db8::1:0:0:1")
    ∷ ("2001:0db8::1:0:0:1", "2001:db8::1:0:0:1")
    ∷ ("2001:db8:0:0:1::1", "2001:db8::1:0:0:1")
    ∷ ("2001:db8:0000:0:1::1", "2001:db8::1:0:0:1")
    ∷ ("2001:DB8:0:0:1::1", "2001:db8::1:0:0:1")
    -- 2.1
    ∷ ("2001:db8:aaaa:bbbb:cccc:dddd:eeee:0001", "2001:db8:aaaa:bbbb:cccc:dddd:eeee:1")
    ∷ ("2001:db8:aaaa:bbbb:cccc:dddd:eeee:001", "2001:db8:aaaa:bbbb:cccc:dddd:eeee:1")
    ∷ ("2001:db8:aaaa:bbbb:cccc:dddd:eeee:01", "2001:db8:aaaa:bbbb:cccc:dddd:eeee:1")
    ∷ ("2001:db8:aaaa:bbbb:cccc:dddd:eeee:1", "2001:db8:aaaa:bbbb:cccc:dddd:eeee:1")
    -- 2.2
    ∷ ("2001:db8:aaaa:bbbb:cccc:dddd::1", "2001:db8:aaaa:bbbb:cccc:dddd:0:1")
    ∷ ("2001:db8:aaaa:bbbb:cccc:dddd:0:1", "2001:db8:aaaa:bbbb:cccc:dddd:0:1")
    ∷ ("2001:db8:0:0:0::1", "2001:db8::1")
    ∷ ("2001:db8:0:0::1", "2001:db8::1")
    ∷ ("2001:db8:0::1", "2001:db8::1")
    ∷ ("2001:db8::1", "2001:db8::1")
    ∷ ("2001:db8::aaaa:0:0:1", "2001:db8::aaaa:0:0:1")
    ∷ ("2001:db8:0:0:aaaa::1", "2001:db8::aaaa:0:0:1")
    -- 2.3
    ∷ ("2001:db8:aaaa:bbbb:cccc:dddd:eeee:aaaa", "2001:db8:aaaa:bbbb:cccc:dddd:eeee:aaaa")
    ∷ ("2001:db8:aaaa:bbbb:cccc:dddd:eeee:AAAA", "2001:db8:aaaa:bbbb:cccc:dddd:eeee:aaaa")
    ∷ ("2001:db8:aaaa:bbbb:cccc:dddd:eeee:AaAa", "2001:db8:aaaa:bbbb:cccc:dddd:eeee:aaaa")
    -- 4.1
    ∷ ("2001:0db8::0001", "2001:db8::1")
    -- 4.2.1
    ∷ ("2001:db8:0:0:0:0:2:1", "2001:db8::2:1")
    ∷ ("2001:db8::0:1", "2001:db8::1")
    -- 4.2.2
    ∷ ("2001:db8::1:1:1:1:1", "2001:db8:0:1:1:1:1:1")
    -- 4.2.3
    ∷ ("2001:0:0:1:0:0:0:1", "2001:0:0:1::1")
    -- 5, under ::ffff:0:0/96
    ∷ ("::ffff:192.0.2.1", "::ffff:192.0.2.1")
    ∷ ("0:0:0:0:0:ffff:192.0.2.1", "::ffff:192.0.2.1")
    ∷ []

pub forms_written : map (λ e. again (reading_of (ascii e.0))) forms ≡ map (λ e. ascii e.1) forms
unfolding computing
forms_written = refl

-- the same for mapped addresses and those beside them: clauses 9.3 and 9.5
abbrev pub mapped : List (String × String)
mapped =
    ("192.0.2.1", "::ffff:192.0.2.1")
    ∷ ("::ffff:c000:201", "::ffff:192.0.2.1")
    ∷ ("::FFFF:C000:201", "::ffff:192.0.2.1")
    ∷ ("0.0.0.0", "::ffff:0.0.0.0")
    ∷ ("255.255.255.255", "::ffff:255.255.255.255")
    ∷ ("::ffff:a09:6309", "::ffff:10.9.99.9")
    -- not under ::ffff:0:0/96
    ∷ ("::192.0.2.1", "::c000:201")
    ∷ ("::1.2.3.4", "::102:304")
    ∷ ("::fffe:192.0.2.1", "::fffe:c000:201")
    ∷ ("::1:ffff:192.0.2.1", "::1:ffff:c000:201")
    ∷ ("::ffff:0:192.0.2.1", "::ffff:0:c000:201")
    ∷ ("1::ffff:192.0.2.1", "1::ffff:c000:201")
    ∷ ("64:ff9b::192.0.2.33", "64:ff9b::c000:221")
    ∷ []

pub mapped_written : map (λ e. again (reading_of (ascii e.0))) mapped ≡ map (λ e. ascii e.1) mapped
unfolding computing
mapped_written = refl

-- texts that are not legal: "::" stands once, and for one group at least; there are eight groups of one to four digits; four decimals, from 0 to
-- 255 without leading zeros, come last, behind a colon or alone; there is neither a zone nor a prefix length
abbrev pub illegal : List String
illegal =
    "" ∷ ":" ∷ ":::" ∷ "1::2::3" ∷ "1:::2" ∷ ":1:2:3:4:5:6:7" ∷ "1:2:3:4:5:6:7:" ∷ "1:2:3:4:5:6:7" ∷ "1:2:3:4:5:6:7:8:9" ∷ "1:2:3:4::5:6:7:8"
    ∷ "12345::" ∷ "::g" ∷ "::192.0.2" ∷ "::192.0.2.1.1" ∷ "::192.0..1" ∷ "::192.0.2.01" ∷ "::192.0.2.00" ∷ "::192.0.2.1a"
    ∷ "1.2.3" ∷ "1.2.3.4.5" ∷ "01.2.3.4" ∷ "1.2.3.256" ∷ "1.2.3." ∷ ".1.2.3.4" ∷ "1.2.3.4::" ∷ "1.2.3.4:5" ∷ "a.2.3.4" ∷ "1.2.3.4 "
    ∷ "::192.0.2.1:1" ∷ "192.0.2.1::" ∷ "1:2:3:4:5:6:7:192.0.2.1" ∷ "fe80::1%1" ∷ "2001:db8::/32" ∷ " ::1" ∷ []

pub illegal_refused : map (λ s. groups_of (ascii s)) illegal ≡ map (λ s. none) illegal
unfolding computing
illegal_refused = refl

-- texts that go on; the address that is read of each, as it is written, and how many bytes it took: clause 9.4
abbrev pub runs : List (String × (String × ℕ))
runs =
    ("2001:db8::1]:443", ("2001:db8::1", 11))
    ∷ ("2001:db8::1, tcp", ("2001:db8::1", 11))
    ∷ ("192.0.2.1 tcp", ("::ffff:192.0.2.1", 9))
    ∷ ("fe80::1%1", ("fe80::1", 7))
    ∷ ("2001:db8::/32", ("2001:db8::", 10))
    -- letters a to f of a word that follows join the run
    ∷ ("::1eth0", ("::1e", 4))
    ∷ []

-- the address, as it is written, and the bytes taken; nothing for what is refused
abbrev pub taken_again : Result Taken Refusal → Option (List ℕ × ℕ)
taken_again (Ok t) = some (written t.key.high t.key.low, t.bytes)
taken_again (Err why) = none

pub runs_taken : map (λ e. taken_again (taken_of (ascii e.0))) runs ≡ map (λ e. some (ascii e.1.0, e.1.1)) runs
unfolding computing run taking taken_of
runs_taken = refl

-- texts whose run is not legal: an empty one, one with a port, a dot or a colon behind the address, one with another beginning
abbrev pub unread : List String
unread = "" ∷ "[2001:db8::1]:443" ∷ "192.0.2.1:443" ∷ "2001:db8::1." ∷ "2001:db8::1: tcp" ∷ "face:2001:db8::1:2:3:4:5:6 " ∷ "bad 2001:db8::1" ∷ []

pub unread_refused : map (λ s. taken_again (taken_of (ascii s))) unread ≡ map (λ s. none) unread
unfolding computing run taking taken_of
unread_refused = refl
