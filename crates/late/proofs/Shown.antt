-- Tables that show a history: what an event meets by the words is the late look at it, the search after the last event is the papers', and
-- with an event entered the tables show the longer history.
use mathlib.Core.Path.{◌≡◌, refl, sym, ◌∙◌}
use mathlib.Core.Bool.{not, ◌&&◌}
use mathlib.Core.List.{List, [], ◌∷◌}
use Prim.Native.Nat.{ℕ, zero, suc, ◌+◌, ◌*◌, ◌/◌, ◌%◌, ◌<◌, ◌≤◌}
use native.Mathlib.Numerals.{add-one}
use native.Mathlib.Omega.{arith}
use mathlib.Core.Logic.{inl}
use lib.Dec.{eqb, ltb}
use lib.ListN.{length, get_or}
use borrow.Author.Tests.{ltb-false}
use Rattle.events.specs.declared.Event.{Event}
use Rattle.events.specs.declared.Deed.{Deed}
use Rattle.events.specs.Acts.{Act, History, recording_of, entered, before, DeedWithin, reads, writes, crosses}
use Rattle.events.specs.Stretches.{has_written, stale_read, wrote_last}
use Rattle.events.specs.Clashes.{OnWritten}
use Rattle.events.specs.Words.{stretch_word, writer_word, version_word, once, log_word}
use Rattle.events.specs.Verdicts.{Verdict, accepted, reported, first_of, other_writer, stale_field, late_by, late_look, end_by}
use Rattle.events.proofs.Tests.{bool, same}
use Rattle.events.proofs.Search.{lowest_ext}
use Rattle.events.proofs.Histories.{ActWithin, ActsWithin, act_wider, acts_wider, deed_wider, event_short, before_next, No}
use Rattle.events.proofs.Stretches.{stretch_low}
use Rattle.events.proofs.Words.{has_written_lem}
use Rattle.events.proofs.Unused.{unused_log}
use Rattle.events.proofs.Stale.{wrote_last_lem, stale_by_words_lem}
use Rattle.events.proofs.Late.{end_ext}
use Rattle.events.proofs.Walks.{first_ext}
use Rattle.tables.specs.Lent.{cells, filled, Shown}
use Rattle.tables.specs.Steps.{writer_by, stretch_with, stretch_after, writer_with, writer_after}
use Rattle.tables.proofs.Lent.{shown_length, shown_same, shown_set, shown_cell, eqb_cell}
use Rattle.tables.proofs.Shown.{shown_stretch, stretch_with_lem, writer_with_lem, writer_shown, stretch_at_start, zero_at_start}
use Rattle.stale.specs.Stale.{stale_words, stale_field_by}
use Rattle.late.specs.declared.Tables.{Tables}
use Rattle.late.specs.Steps.{late_meets, wrote_by, version_with, version_after, log_read, log_with, log_after, Sized, Lent, Room, Entered, Stepped}
use Rattle.late.specs.Runs.{Shows}
use Rattle.late.proofs.Laws.{lent_still}
use Rattle.late.proofs.Columns.{shown_cleared}

-- what no act has done, none had done before
calm_so_far : (h : History) (e : List Act) → No OnWritten (entered h e) → No OnWritten h
unfolding entered
calm_so_far h [] c = c
calm_so_far h (a ∷ more) c = (calm_so_far (a ∷ h) more c).1

-- the tables before event 0
pub shows_start : (S₁ : List ℕ) (t₀ t : Tables) → Lent t₀ t → t₀.workers ≤ 16 → Sized t₀ → S₁ ≡ filled 16 0 t₀.stretch.now
    → t.stretch.now ≡ filled t₀.workers 1 S₁ → t.writer.now ≡ filled 512 0 t₀.writer.now → t.version.now ≡ filled 512 0 t₀.version.now
    → t.log.now ≡ filled 8192 0 t₀.log.now → Shows [] t₀ t
unfolding writer_word version_word log_word
shows_start S₁ t₀ t lent few sized a b c d e = record {
  lent = lent;
  stretch = stretch_at_start t₀.workers t₀.stretch.now S₁ t.stretch.now few sized.stretch a b;
  writer = zero_at_start 512 (writer_word []) t₀.writer.now t.writer.now sized.writer c (λ i. refl);
  version = zero_at_start 512 (version_word []) t₀.version.now t.version.now sized.version d (λ i. refl);
  log = zero_at_start 8192 (cells (log_word [])) t₀.log.now t.log.now sized.log e (λ i. refl);
}

-- the words alone
record Words (W : ℕ) (h : History) (S₀ Wr₀ Vr₀ Lg₀ S Wr Vr Lg : List ℕ) : Type 0 where
  pub stretch : Shown 16 (stretch_word W h) S₀ S
  pub writer : Shown 512 (writer_word h) Wr₀ Wr
  pub version : Shown 512 (version_word h) Vr₀ Vr
  pub log : Shown 8192 (cells (log_word h)) Lg₀ Lg

module _ (W F : ℕ) (few : W ≤ 16) (fit : F ≤ 512) (S₀ Wr₀ Vr₀ Lg₀ : List ℕ) where
  module _ (h : History) (inside : ActsWithin W F h) (calm : No OnWritten h) (S Wr Vr Lg : List ℕ)
      (shows : Words W h S₀ Wr₀ Vr₀ Lg₀ S Wr Vr Lg) where
    wrote_shown : (w f : ℕ) → w < W → f < F → wrote_by S Wr w f ≡ wrote_last h w f
    unfolding wrote_by
    wrote_shown w f a b =
        rw (shows.writer.words f (omega arith), shown_stretch W few h S₀ S shows.stretch w a)
        (sym (wrote_last_lem W F few h inside w f (omega arith)))

    written_shown : (w f : ℕ) → w < W → f < F → wrote_by S Wr w f ≡ has_written h w f
    unfolding wrote_by
    written_shown w f a b =
        rw (shows.writer.words f (omega arith), shown_stretch W few h S₀ S shows.stretch w a)
        (sym (has_written_lem W F few h inside calm w f (omega arith)))

    version_with_lem : (a : Act) → ActWithin W F a → Shown 512 (version_word (a ∷ h)) Vr₀ (version_with S Wr Vr a)
    unfolding version_with version_word
    version_with_lem (reads w f) i = shows.version
    version_with_lem (writes w f) i =
        rw (written_shown w f i.0 i.1)
        (bool (has_written h w f)
        (λ t.
        rw t
        (shown_same 512 (version_word h) Vr₀ (version_word (writes w f ∷ h)) Vr shows.version (λ g b.
        same f g (λ q s. rw (s, ← q, t)) (λ _ s. rw s))))
        (λ t.
        rw t
        (shown_set 512 (version_word h) Vr₀ (version_word (writes w f ∷ h)) Vr f (get_or Vr f 0 + 1) shows.version (omega arith) (λ g b.
        rw (shows.version.words f (omega arith), add-one)
        (same f g (λ q s. rw (s, ← q, t)) (λ _ s. rw s))))))
    version_with_lem (crosses w) i = shows.version

    log_with_lem : (a : Act) → ActWithin W F a → Shown 8192 (cells (log_word (a ∷ h))) Lg₀ (log_with F S Wr Vr Lg a)
    unfolding log_with log_read log_word
    log_with_lem (reads w f) i =
        rw (wrote_shown w f i.0 i.1)
        (bool (wrote_last h w f)
        (λ t.
        rw t
        (shown_same 8192 (cells (log_word h)) Lg₀ (cells (log_word (reads w f ∷ h))) Lg shows.log (λ k b.
        same f (k / 16)
        (λ q s. rw s (same w (k % 16) (λ q' s'. rw (s', ← q, ← q', t)) (λ _ s'. rw s')))
        (λ _ s. rw s))))
        (λ t.
        rw t
        (shown_set 8192 (cells (log_word h)) Lg₀ (cells (log_word (reads w f ∷ h))) Lg (16 * f + w) (once (get_or Lg (16 * f + w) 0) (get_or Vr f 0 + 1)) shows.log (omega arith) (λ k b.
        rw (
          eqb_cell f w k (omega arith),
          shown_cell (log_word h) f w (omega arith) 8192 Lg₀ Lg shows.log (omega arith),
          shows.version.words f (omega arith),
          add-one,
        )
        (same f (k / 16)
        (λ q s. rw s (same w (k % 16) (λ q' s'. rw (s', ← q, ← q', t)) (λ _ s'. rw s')))
        (λ _ s. rw s))))))
    log_with_lem (writes w f) i = shows.log
    log_with_lem (crosses w) i =
        shown_cleared Lg w (omega arith) 8192 F (cells (log_word h)) (cells (log_word (crosses w ∷ h))) Lg₀ shows.log (omega arith) (λ k b.
        same w (k % 16)
        (λ q t.
        rw t
        (bool (ltb (k / 16) F) (λ s. rw s) (λ s. rw (s, unused_log W F h inside (k / 16) (k % 16) (inl (ltb-false (k / 16) F s))))))
        (λ _ t. rw t))

    -- with an act entered they show the longer history
    words_with : (a : Act) → ActWithin W F a
        → Words W (a ∷ h) S₀ Wr₀ Vr₀ Lg₀ (stretch_with S a) (writer_with S Wr a) (version_with S Wr Vr a) (log_with F S Wr Vr Lg a)
    words_with a i = record {
      stretch = stretch_with_lem W few h S₀ S shows.stretch a (act_wider W F 512 fit a i);
      writer = writer_with_lem W few h S₀ S shows.stretch (acts_wider W F 512 fit h inside) Wr₀ Wr shows.writer a (act_wider W F 512 fit a i);
      version = version_with_lem a i;
      log = log_with_lem a i;
    }

    -- the test of the words is the stale read
    stale_shown : (w f : ℕ) → w < 16 → f < F → stale_words Lg Vr Wr w f ≡ stale_read h w f
    unfolding stale_words
    stale_shown w f a b =
        rw (
          shown_cell (log_word h) f w a 8192 Lg₀ Lg shows.log (omega arith),
          shows.version.words f (omega arith),
          shows.writer.words f (omega arith),
        )
        (sym (stale_by_words_lem W F few h inside calm w f a))

    stale_field_shown : (w : ℕ) → w < 16 → stale_field_by F Lg Vr Wr w ≡ stale_field F h w
    stale_field_shown w a = lowest_ext (stale_words Lg Vr Wr w) (stale_read h w) 0 F (λ f l. stale_shown w f a (omega arith))

    other_shown : (w f : ℕ) → f < F → writer_by W S Wr w f ≡ other_writer h w f
    other_shown w f b =
        writer_shown W few h S₀ S shows.stretch (acts_wider W F 512 fit h inside) Wr₀ Wr shows.writer calm w f (omega arith)

    look_shown : (n : ℕ) (a : Act) → ActWithin W F a → late_by (writer_by W S Wr) (stale_field_by F Lg Vr Wr) n a ≡ late_look F h n a
    look_shown n (reads w f) i = rw (other_shown w f i.1)
    look_shown n (writes w f) i = rw (other_shown w f i.1)
    look_shown n (crosses w) i = rw (stale_field_shown w (omega arith))

    -- what an event meets by the words, and what is said after the last one
    words_meet : (n : ℕ) (e : List Act) → ActsWithin W F e
        → first_of (late_by (writer_by W S Wr) (stale_field_by F Lg Vr Wr) n) e ≡ first_of (late_look F h n) e
    words_meet n = first_ext (late_by (writer_by W S Wr) (stale_field_by F Lg Vr Wr) n) (late_look F h n) W F (look_shown n)

    words_end : (n : ℕ) → end_by (stale_field_by F Lg Vr Wr) n 0 W ≡ end_by (stale_field F h) n 0 W
    words_end n = end_ext (stale_field_by F Lg Vr Wr) (stale_field F h) n 0 W (λ w l. stale_field_shown w (omega arith))

  -- with an event's acts entered they show the longer history
  words_after : (h : History) (e : List Act) → ActsWithin W F h → ActsWithin W F e → No OnWritten (entered h e) → (S Wr Vr Lg : List ℕ)
      → Words W h S₀ Wr₀ Vr₀ Lg₀ S Wr Vr Lg
      → Words W (entered h e) S₀ Wr₀ Vr₀ Lg₀ (stretch_after S e) (writer_after S Wr e) (version_after S Wr Vr e) (log_after F S Wr Vr Lg e)
  unfolding entered stretch_after writer_after version_after log_after
  words_after h [] i j calm S Wr Vr Lg shows = shows
  words_after h (a ∷ more) i j calm S Wr Vr Lg shows =
      words_after (a ∷ h) more (j.0, i) j.1 calm (stretch_with S a) (writer_with S Wr a) (version_with S Wr Vr a) (log_with F S Wr Vr Lg a)
      (words_with h i (calm_so_far (a ∷ h) more calm).1 S Wr Vr Lg shows a j.0)

-- the tables
module _ (t₀ t : Tables) (few : t₀.workers ≤ 16) (fit : t₀.plain ≤ 512) (h : History) (inside : ActsWithin t₀.workers t₀.plain h) (shows : Shows h t₀ t) where
  words : Words t₀.workers h t₀.stretch.now t₀.writer.now t₀.version.now t₀.log.now t.stretch.now t.writer.now t.version.now t.log.now
  words = record { stretch = shows.stretch; writer = shows.writer; version = shows.version; log = shows.log }

  -- as long as no access has met another worker's open stretch that had written its field
  module _ (calm : No OnWritten h) (n : ℕ) where
    pub meets_shown : (e : List Act) → ActsWithin t₀.workers t₀.plain e → late_meets t n e ≡ first_of (late_look t₀.plain h n) e
    meets_shown e i =
        rw (shows.lent.workers, shows.lent.plain)
        (words_meet t₀.workers t₀.plain few fit t₀.stretch.now t₀.writer.now t₀.version.now t₀.log.now h inside calm t.stretch.now t.writer.now t.version.now t.log.now words n e i)

    pub end_shown : end_by (stale_field_by t₀.plain t.log.now t.version.now t.writer.now) n 0 t₀.workers ≡ end_by (stale_field t₀.plain h) n 0 t₀.workers
    end_shown =
        words_end t₀.workers t₀.plain few fit t₀.stretch.now t₀.writer.now t₀.version.now t₀.log.now h inside calm t.stretch.now t.writer.now t.version.now t.log.now words n

  -- with an event's acts entered they show the longer history
  pub shows_after : (t' : Tables) (e : List Act) → ActsWithin t₀.workers t₀.plain e → No OnWritten (entered h e) → Entered e t t' → Shows (entered h e) t₀ t'
  shows_after t' e acts calm new =
      let w =
      words_after t₀.workers t₀.plain few fit t₀.stretch.now t₀.writer.now t₀.version.now t₀.log.now h e inside acts calm t.stretch.now t.writer.now t.version.now t.log.now words in
      record {
        lent = lent_still t₀ t t' shows.lent new.lent;
        stretch = rw new.stretch w.stretch;
        writer = rw new.writer w.writer;
        version = rw new.version w.version;
        log = rw (new.log, shows.lent.plain) w.log;
      }

  -- A step says what the late look says. If that is no report, its tables show the longer history; else they show h.
  pub step_passed : (n : ℕ) (e : List Act) → ActsWithin t₀.workers t₀.plain e → (v : Verdict) (t' : Tables) → Stepped n e v t t' → v ≡ accepted
      → No OnWritten (entered h e) → Shows (entered h e) t₀ t'
  step_passed n e acts v t' stepped q after = shows_after t' e acts after (rw q at stepped.entered)

  pub step_stopped : (n : ℕ) (e : List Act) (v : Verdict) (t' : Tables) → Stepped n e v t t' → (m s w u f : ℕ) → v ≡ reported m s w u f → Shows h t₀ t'
  unfolding stretch_after writer_after version_after log_after
  step_stopped n e v t' stepped m s w u f q =
      let kept : Entered [] t t' = rw q at stepped.entered in
      record {
        lent = lent_still t₀ t t' shows.lent kept.lent;
        stretch = rw kept.stretch shows.stretch;
        writer = rw kept.writer shows.writer;
        version = rw kept.version shows.version;
        log = rw kept.log shows.log;
      }

  module _ (calm : No OnWritten h) (n : ℕ) (e : List Act) (acts : ActsWithin t₀.workers t₀.plain e) (v : Verdict) (t' : Tables) (stepped : Stepped n e v t t') where
    pub step_says : v ≡ first_of (late_look t₀.plain h n) e
    step_says = stepped.answer ∙ meets_shown calm n e acts

-- each act raises a version by one at most
version_next : (a : Act) (h : History) (f : ℕ) → version_word (a ∷ h) f ≤ version_word h f + 1
unfolding version_word
version_next (reads u g) h f = omega arith
version_next (writes u g) h f = bool (eqb g f && not (has_written h u f)) (λ t. rw t (omega arith)) (λ t. rw t (omega arith))
version_next (crosses u) h f = omega arith

version_entered : (h : History) (e : List Act) (f : ℕ) → version_word (entered h e) f ≤ version_word h f + length e
unfolding entered
version_entered h [] f = omega arith
version_entered h (a ∷ more) f =
    let x = version_entered (a ∷ h) more f in
    let y = version_next a h f in
    omega arith

-- an event has at most two acts, so a version is at most twice the events so far
version_low : (P : ℕ) (es : List Event) (n f : ℕ) → version_word (before [] (recording_of P es) n) f ≤ 2 * n
unfolding before version_word
version_low P es zero f = omega arith
version_low P es (suc n) f =
    let x = version_low P es n f in
    let y = version_entered (before [] (recording_of P es) n) (get_or (recording_of P es) n []) f in
    let z = event_short P es n in
    rw before_next (omega arith)

-- on tables that show the events before event n, a step can be taken
pub room_shown : (t₀ t : Tables) → t₀.workers ≤ 16 → t₀.plain ≤ 512 → (P : ℕ) (es : List Event) (n : ℕ) → n ≤ 16000
    → (d : Deed) → DeedWithin t₀.workers t₀.plain d → Shows (before [] (recording_of P es) n) t₀ t → Room d t
unfolding stretch_word
room_shown t₀ t few fit P es n l d i shows = record {
  fields = rw shows.lent.plain fit;
  inside = rw shows.lent.plain (deed_wider t₀.workers 16 t₀.plain few d i);
  sized = record {
    stretch = shown_length 16 (stretch_word t₀.workers h) t₀.stretch.now t.stretch.now shows.stretch;
    writer = shown_length 512 (writer_word h) t₀.writer.now t.writer.now shows.writer;
    version = shown_length 512 (version_word h) t₀.version.now t.version.now shows.version;
    log = shown_length 8192 (cells (log_word h)) t₀.log.now t.log.now shows.log;
  };
  numbers = λ w a.
      let q = stretch_low P es n w in
      rw (shows.stretch.words w a) (bool (ltb w t₀.workers) (λ s. rw s (omega arith)) (λ s. rw s (omega arith)));
  versions = λ f a. rw (shows.version.words f (omega (arith, shows.lent.plain))) (omega (arith, version_low P es n f));
}
  where
    h : History
    h = before [] (recording_of P es) n
