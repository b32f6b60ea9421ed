-- Laws of a file's bytes: items of one length, a section put into a buffer item by item.
use mathlib.Core.Path.{◌≡◌, refl, sym, ◌∙◌}
use mathlib.Core.List.{List, ◌++◌, append_assoc, append-nil}
use Prim.Native.Nat.{ℕ, zero, suc, ◌+◌, ◌*◌, ◌<◌, ◌≤◌}
use native.Mathlib.Numerals.{add-one}
use native.Mathlib.Omega.{arith}
use lib.ListN.{length, get_or, length-append}
use lib.Seq.{take_all}
use borrow.Rule.Slice.PartMut.{put_mid}
use Rattle.std.proofs.lemmas.Slice.{put_mid-paste}
use Rattle.byte_rows.specs.Buffer.{put}
use Rattle.writing.specs.declared.Events.{Events}
use Rattle.writing.specs.Writing.{number_of, two_bytes, entry_bytes, items, section_of}
use Rattle.writing.specs.Parts.{count_of, event_in, label_bytes, event_bytes_of}
use Rattle.byte_rows.proofs.Buffer.{put_put, put_nothing}

-- bytes copied into a part of a buffer
pub copied : (lent bytes now : List ℕ) (at k : ℕ) → now ≡ bytes → k ≡ length bytes → put_mid at k lent now ≡ put lent at bytes
unfolding put
copied lent bytes now at k q l = put_mid-paste at k lent now bytes (length bytes) q (sym l) refl ∙ rw (take_all (length bytes) bytes (omega arith))

-- items that have m bytes each
module _ (bytes : ℕ → List ℕ) (m : ℕ) (each : (j : ℕ) → length (bytes j) ≡ m) where
  pub length-items : (n k : ℕ) → length (items bytes n k) ≡ m * k
  unfolding items
  length-items n zero = omega arith
  length-items n (suc k) = length-append (bytes n) (items bytes (n + 1) k) ∙ rw (each n, length-items (n + 1) k) (omega arith)

  pub one_more : (n k : ℕ) → items bytes n (suc k) ≡ items bytes n k ++ bytes (n + k)
  unfolding items
  one_more n zero = let z : n + 0 ≡ n = omega arith in rw (z, append-nil)
  one_more n (suc k) =
      let z : n + 1 + k ≡ n + suc k = omega arith in
      rw (one_more (n + 1) k, z) (sym (append_assoc (bytes n) (items bytes (n + 1) k) (bytes (n + suc k))))

  pub length-section : (count : ℕ) → length (section_of count bytes) ≡ 2 + m * count
  unfolding section_of
  length-section count = length-append (two_bytes count) (items bytes 0 count) ∙ rw (length-items 0 count) (omega arith)

  -- items in a buffer, one after another
  pub item_put : (lent : List ℕ) (at n : ℕ) (now later : List ℕ) → at + m * n ≤ length lent → now ≡ put lent at (items bytes 0 n)
      → later ≡ put now (at + m * n) (bytes n) → later ≡ put lent at (items bytes 0 (n + 1))
  item_put lent at n now later room so_far q =
      let long = length-items 0 n in
      let place : at + m * n ≡ at + length (items bytes 0 n) = omega arith in
      let zero : 0 + n ≡ n = omega arith in
      q
      ∙ rw (so_far, place, put_put lent at (items bytes 0 n) (omega arith) (bytes n), add-one, one_more 0 n, zero)

-- the count, and right after it the items
pub section_put : (bytes : ℕ → List ℕ) (count : ℕ) (lent : List ℕ) (at k : ℕ) (now later : List ℕ) → at + 2 + k ≤ length lent
    → now ≡ put lent at (two_bytes count) → later ≡ put now (at + 2) (items bytes 0 count) → later ≡ put lent at (section_of count bytes)
unfolding section_of
section_put bytes count lent at k now later room p q = q ∙ rw p (put_put lent at (two_bytes count) (omega arith) (items bytes 0 count))

-- no item yet
pub none_put : (bytes : ℕ → List ℕ) (lent : List ℕ) (at : ℕ) → lent ≡ put lent at (items bytes 0 0)
unfolding items
none_put bytes lent at = put_nothing lent at

-- the next label, and the next event
pub label_put : (row lent : List ℕ) (at n : ℕ) (now later : List ℕ) → at + 2 * length row ≤ length lent → n < length row
    → now ≡ put lent at (items (label_bytes row) 0 n) → later ≡ put now (at + 2 * n) (two_bytes (get_or row n 0)) → later ≡ put lent at (items (label_bytes row) 0 (n + 1))
unfolding number_of
label_put row lent at n now later room l p q = item_put (label_bytes row) 2 (λ _. refl) lent at n now later (omega arith) p q

pub event_put : (e : Events) (lent : List ℕ) (at n : ℕ) (now later : List ℕ) → at + 4 * count_of e ≤ length lent → n < count_of e
    → now ≡ put lent at (items (event_bytes_of e) 0 n) → later ≡ put now (at + 4 * n) (entry_bytes (event_in e n)) → later ≡ put lent at (items (event_bytes_of e) 0 (n + 1))
event_put e lent at n now later room l p q = item_put (event_bytes_of e) 4 (λ _. refl) lent at n now later (omega arith) p q
