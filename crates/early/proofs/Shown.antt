-- Tables that show a history: what an event meets by the words is the early look at it, and with its acts entered they show the longer
-- history.
use mathlib.Core.Path.{◌≡◌, refl, sym}
use mathlib.Core.Bool.{not, ◌&&◌, and-false}
use mathlib.Core.List.{List, [], ◌∷◌}
use Prim.Native.Nat.{ℕ, ◌+◌, ◌*◌, ◌%◌, ◌<◌, ◌≤◌}
use native.Mathlib.Omega.{arith}
use lib.Dec.{eqb, ltb}
use lib.ListN.{get_or}
use borrow.Author.Tests.{ltb-true, ltb-false}
use Rattle.events.specs.declared.Deed.{Deed}
use Rattle.events.specs.Acts.{Act, History, acts_of, entered, reads, writes, crosses}
use Rattle.events.specs.Stretches.{has_read}
use Rattle.events.specs.Clashes.{OnWritten}
use Rattle.events.specs.Words.{stretch_word, writer_word, readers_word}
use Rattle.events.specs.Verdicts.{first_of, other_reader, early_by, early_look}
use Rattle.events.proofs.Tests.{bool, same}
use Rattle.events.proofs.Search.{lowest_ext}
use Rattle.events.proofs.Histories.{ActWithin, ActsWithin, No}
use Rattle.events.proofs.Stretches.{unused_read}
use Rattle.events.proofs.Words.{has_read_lem}
use Rattle.events.proofs.Walks.{first_ext}
use Rattle.tables.specs.Lent.{Shown, cells, filled}
use Rattle.tables.specs.Steps.{is_open, writer_by, stretch_with, writer_with, stretch_after, writer_after}
use Rattle.tables.proofs.Lent.{shown_set, shown_cell, eqb_cell}
use Rattle.tables.proofs.Laws.{open_over}
use Rattle.tables.proofs.Shown.{shown_stretch, shown_open, stretch_with_lem, writer_with_lem, writer_shown, stretch_at_start, zero_at_start}
use Rattle.early.specs.declared.Tables.{Tables}
use Rattle.early.specs.Steps.{reader_open, reader_by, meets, readers_with, readers_after, Sized, Lent}
use Rattle.early.proofs.Laws.{lent_still}
use Rattle.early.specs.Runs.{Shows}

-- the tables before event 0
pub shows_start : (S₁ : List ℕ) (t₀ t : Tables) → Lent t₀ t → t₀.workers ≤ 16 → Sized t₀ → S₁ ≡ filled 16 0 t₀.stretch.now
    → t.stretch.now ≡ filled t₀.workers 1 S₁ → t.writer.now ≡ filled 512 0 t₀.writer.now → t.readers.now ≡ filled 8192 0 t₀.readers.now
    → Shows [] t₀ t
unfolding writer_word readers_word
shows_start S₁ t₀ t lent few sized a b c d = record {
  lent = lent;
  stretch = stretch_at_start t₀.workers t₀.stretch.now S₁ t.stretch.now few sized.stretch a b;
  writer = zero_at_start 512 (writer_word []) t₀.writer.now t.writer.now sized.writer c (λ f. refl);
  readers = zero_at_start 8192 (cells (readers_word [])) t₀.readers.now t.readers.now sized.readers d (λ i. refl);
}

-- the words alone
pub record Words (W : ℕ) (h : History) (S₀ Wr₀ Rd₀ S Wr Rd : List ℕ) : Type 0 where
  pub stretch : Shown 16 (stretch_word W h) S₀ S
  pub writer : Shown 512 (writer_word h) Wr₀ Wr
  pub readers : Shown 8192 (cells (readers_word h)) Rd₀ Rd

module _ (W : ℕ) (few : W ≤ 16) (S₀ Wr₀ Rd₀ : List ℕ) where
  module _ (h : History) (inside : ActsWithin W 512 h) (S Wr Rd : List ℕ) (shows : Words W h S₀ Wr₀ Rd₀ S Wr Rd) where
    read_open : (f u : ℕ) → f < 512 → u < 16 → is_open W S u (get_or Rd (16 * f + u) 0) ≡ has_read h u f
    read_open f u a b =
        bool (ltb u W)
        (λ t.
        rw (shown_cell (readers_word h) f u b 8192 Rd₀ Rd shows.readers (omega arith), has_read_lem h u f)
        (shown_open W few h S₀ S shows.stretch u (readers_word h f u) (ltb-true u W t)))
        (λ t.
        rw (unused_read W 512 h inside u f (ltb-false u W t)) (sym (open_over W S u (get_or Rd (16 * f + u) 0) (ltb-false u W t))))

    reader_shown : (w f : ℕ) → f < 512 → reader_by W S Rd w f ≡ other_reader h w f
    unfolding reader_open
    reader_shown w f a =
        lowest_ext (reader_open W S Rd w (16 * f)) (λ u. not (eqb u w) && has_read h u f) 0 16 (λ u l. rw (read_open f u a (omega arith)))

    -- as long as no access has met another worker's open stretch that had written its field
    module _ (calm : No OnWritten h) (n : ℕ) where
      act_shown : (a : Act) → ActWithin W 512 a → early_by (writer_by W S Wr) (reader_by W S Rd) n a ≡ early_look h n a
      act_shown (reads w f) i = rw (writer_shown W few h S₀ S shows.stretch inside Wr₀ Wr shows.writer calm w f i.1)
      act_shown (writes w f) i =
          rw (writer_shown W few h S₀ S shows.stretch inside Wr₀ Wr shows.writer calm w f i.1, reader_shown w f i.1)
      act_shown (crosses w) i = refl

      pub words_meet : (e : List Act) → ActsWithin W 512 e
          → first_of (early_by (writer_by W S Wr) (reader_by W S Rd) n) e ≡ first_of (early_look h n) e
      words_meet = first_ext (early_by (writer_by W S Wr) (reader_by W S Rd) n) (early_look h n) W 512 act_shown

    readers_with_lem : (a : Act) → ActWithin W 512 a → Shown 8192 (cells (readers_word (a ∷ h))) Rd₀ (readers_with S Rd a)
    unfolding readers_with readers_word
    readers_with_lem (reads w f) i =
        shown_set 8192 (cells (readers_word h)) Rd₀ (cells (readers_word (reads w f ∷ h))) Rd (16 * f + w) (get_or S w 0) shows.readers (omega arith) (λ j b.
        rw (eqb_cell f w j (omega arith))
        (same w (j % 16)
        (λ q t. rw (t, ← q, shown_stretch W few h S₀ S shows.stretch w i.0))
        (λ _ t. rw (t, and-false))))
    readers_with_lem (writes w f) i = shows.readers
    readers_with_lem (crosses w) i = shows.readers

    words_with : (a : Act) → ActWithin W 512 a → Words W (a ∷ h) S₀ Wr₀ Rd₀ (stretch_with S a) (writer_with S Wr a) (readers_with S Rd a)
    words_with a i = record {
      stretch = stretch_with_lem W few h S₀ S shows.stretch a i;
      writer = writer_with_lem W few h S₀ S shows.stretch inside Wr₀ Wr shows.writer a i;
      readers = readers_with_lem a i;
    }

  words_after : (h : History) → ActsWithin W 512 h → (S Wr Rd : List ℕ) → Words W h S₀ Wr₀ Rd₀ S Wr Rd → (e : List Act) → ActsWithin W 512 e
      → Words W (entered h e) S₀ Wr₀ Rd₀ (stretch_after S e) (writer_after S Wr e) (readers_after S Rd e)
  unfolding entered stretch_after writer_after readers_after
  words_after h inside S Wr Rd shows [] i = shows
  words_after h inside S Wr Rd shows (a ∷ more) i =
      words_after (a ∷ h) (i.0, inside) (stretch_with S a) (writer_with S Wr a) (readers_with S Rd a)
      (words_with h inside S Wr Rd shows a i.0) more i.1

module _ (t₀ t : Tables) (few : t₀.workers ≤ 16) (h : History) (inside : ActsWithin t₀.workers 512 h) (shows : Shows h t₀ t) where
  words : Words t₀.workers h t₀.stretch.now t₀.writer.now t₀.readers.now t.stretch.now t.writer.now t.readers.now
  words = record { stretch = shows.stretch; writer = shows.writer; readers = shows.readers }

  -- as long as no access has met another worker's open stretch that had written its field
  pub meets_shown : No OnWritten h → (n : ℕ) (d : Deed) → ActsWithin t₀.workers 512 (acts_of d) → meets t n d ≡ first_of (early_look h n) (acts_of d)
  meets_shown calm n d i =
      rw shows.lent.workers
      (words_meet t₀.workers few t₀.stretch.now t₀.writer.now t₀.readers.now h inside t.stretch.now t.writer.now t.readers.now words calm n (acts_of d) i)

  pub shows_after : (t' : Tables) (e : List Act) → ActsWithin t₀.workers 512 e → Lent t t' → t'.stretch.now ≡ stretch_after t.stretch.now e
      → t'.writer.now ≡ writer_after t.stretch.now t.writer.now e → t'.readers.now ≡ readers_after t.stretch.now t.readers.now e
      → Shows (entered h e) t₀ t'
  shows_after t' e i lent a b c =
      let w =
      words_after t₀.workers few t₀.stretch.now t₀.writer.now t₀.readers.now h inside t.stretch.now t.writer.now t.readers.now words e i in
      record {
        lent = lent_still t₀ t t' shows.lent lent;
        stretch = rw a w.stretch;
        writer = rw b w.writer;
        readers = rw c w.readers;
      }
