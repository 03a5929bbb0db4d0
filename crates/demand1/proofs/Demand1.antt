-- Demand 1, each a single theorem over every call: for all settings, keys, texts, labels, numbers, table bytes and buffers.
use Rattle.std.specs.Prelude.{◌≡◌, refl, ◌⊎◌, ℕ}
use Rattle.std.proofs.Common.{inl, ⊎_elim, arith}
use Rattle.settings.specs.declared.settings.Settings.{Settings}
use Rattle.settings.specs.declared.refusal.Refusal.{Refusal}
use Rattle.settings.specs.Sizes.{table_bytes}
use Rattle.demand1.specs.Claim.{Call, make, ask, record_at, slot_at, check, read_text, write_text, page_at, Lent, Said, refused, outcome, Writes, makes, enters, relabels, deletes, buffer_bytes, Untouched}
use Rattle.demand1.proofs.Kept.{untouched, Accepted, make_kept, ask_kept, check_kept, write_kept, page_kept}

-- what writes the table is no refusal
writes_accepted : {c : Call} {a : Said} → Writes c a → Accepted a
writes_accepted makes why e = absurd (let z : ◌≡◌ {A = ℕ} 0 1 = cc in omega arith)
writes_accepted (enters q label h) why e = absurd (let z : ◌≡◌ {A = ℕ} 0 1 = cc in omega arith)
writes_accepted (relabels q label h) why e = absurd (let z : ◌≡◌ {A = ℕ} 0 1 = cc in omega arith)
writes_accepted (deletes q h) why e = absurd (let z : ◌≡◌ {A = ℕ} 0 1 = cc in omega arith)

module _ (s : Settings) (l : Lent) where
  -- clause 6.13: what writes the table
  pub only_these_write : (c : Call) → ((outcome s l c).after.table ≡ l.table) ⊎ Writes c (outcome s l c).said
  only_these_write make = (make_kept s l.table).unless
  only_these_write (ask q) = (ask_kept s l.table q).unless
  only_these_write (record_at n) = inl refl
  only_these_write (slot_at n) = inl refl
  only_these_write check = inl refl
  only_these_write (read_text x) = inl refl
  only_these_write (write_text k) = inl refl
  only_these_write (page_at k) = inl refl

  -- only accepted calls write a buffer
  accepted_write : (c : Call) → ((outcome s l c).after.buffer ≡ l.buffer) ⊎ Accepted (outcome s l c).said
  accepted_write make = inl refl
  accepted_write (ask q) = inl refl
  accepted_write (record_at n) = inl refl
  accepted_write (slot_at n) = inl refl
  accepted_write check = (check_kept s l.table l.buffer).unless
  accepted_write (read_text x) = inl refl
  accepted_write (write_text k) = (write_kept k l.buffer).unless
  accepted_write (page_at k) = (page_kept s l.table k l.buffer).unless

  -- clause 7.1: a refusal leaves every lent byte
  pub refused_leaves : (c : Call) (why : Refusal) → (outcome s l c).said ≡ refused why → (outcome s l c).after ≡ l
  refused_leaves c why e =
      let t : (outcome s l c).after.table ≡ l.table = ⊎_elim (λ x. x) (λ w. absurd (writes_accepted w why e)) (only_these_write c) in
      let b : (outcome s l c).after.buffer ≡ l.buffer = ⊎_elim (λ x. x) (λ w. absurd (w why e)) (accepted_write c) in
      λ k. record { table = t k; buffer = b k }

  -- clauses 6.11, 6.13, 9.5 and 9.10: the bytes behind the table, the marks, the text and the page stay
  pub beyond_stays : (c : Call)
      → Untouched (table_bytes s) l.table (outcome s l c).after.table × Untouched (buffer_bytes s l.table c) l.buffer (outcome s l c).after.buffer
  beyond_stays make = ((make_kept s l.table).untouched, untouched 0 l.buffer)
  beyond_stays (ask q) = ((ask_kept s l.table q).untouched, untouched 0 l.buffer)
  beyond_stays (record_at n) = (untouched (table_bytes s) l.table, untouched 0 l.buffer)
  beyond_stays (slot_at n) = (untouched (table_bytes s) l.table, untouched 0 l.buffer)
  beyond_stays check = (untouched (table_bytes s) l.table, (check_kept s l.table l.buffer).untouched)
  beyond_stays (read_text x) = (untouched (table_bytes s) l.table, untouched 0 l.buffer)
  beyond_stays (write_text k) = (untouched (table_bytes s) l.table, (write_kept k l.buffer).untouched)
  beyond_stays (page_at k) = (untouched (table_bytes s) l.table, (page_kept s l.table k l.buffer).untouched)
