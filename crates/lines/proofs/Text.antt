-- Laws of text put into a buffer, and of decimal numbers.
use mathlib.Core.Path.{◌≡◌, refl, sym, ◌∙◌, ap}
use mathlib.Core.Bool.{Bool, true, false}
use mathlib.Core.List.{List, [], ◌∷◌, ◌++◌, append_assoc}
use Prim.Native.Nat.{ℕ, zero, suc, ◌+◌, ◌-◌, ◌/◌, ◌%◌, ◌^◌, ◌<◌, ◌≤◌}
use native.Mathlib.Nat.{mod-eq_of_lt, mod-lt, one-le-pow, pow-suc, pow-le-pow_right}
use native.Mathlib.Omega.{arith}
use lib.Dec.{leb}
use lib.ListN.{length, take, drop, length-append, take-append-drop}
use lib.Seq.{take_at, drop_at, drop-drop}
use borrow.Rule.Slice.PartMut.{put_mid}
use borrow.Author.Tests.{lt-ltb, le-ltb, leb-true, leb-false}
use Rattle.io.specs.Digits.{last_digits, IsDigitCount}
use Rattle.byte_rows.specs.Buffer.{put}
use Rattle.byte_rows.proofs.Buffer.{length-put, put_put}
use Rattle.byte_rows.specs.Characters.{ascii}
use Rattle.lines.specs.Text.{spelled, decimal, Puts, Starts}

-- a text copied into its place in a buffer
pub copied : (lent : List ℕ) (at k : ℕ) (text part : List ℕ) → at + length text ≤ length lent → part ≡ text → k ≡ length text
    → Puts (length text) text lent at (put_mid at k lent part) (at + length text)
unfolding put
copied lent at k text part room q n =
    let bytes : put_mid at k lent part ≡ put lent at text =
    (λ i. take at lent ++ (q i ++ (ap (λ m. drop m (drop at lent)) n ∙ drop-drop (length text) at lent) i)) ∙ sym (append_assoc (take at lent) text _) in
    record { bytes = bytes; past = refl; short = omega arith; whole = rw bytes (length-put lent at text room) }

one_digit : (steps n : ℕ) → n < 10 → spelled steps n ≡ (48 + n) ∷ []
unfolding spelled
one_digit zero n l = refl
one_digit (suc steps) n l = rw (lt-ltb n 10 l)

digits_spelled : (k steps n : ℕ) → n ≤ steps → IsDigitCount 10 1 n k → last_digits 10 k n ≡ spelled steps n
unfolding spelled
digits_spelled zero steps n l f = absurd (omega arith)
digits_spelled (suc zero) steps n l f = rw (one_digit steps n f.1, mod-eq_of_lt f.1, lt-ltb n 10 f.1)
digits_spelled (suc (suc k)) zero n l f =
    let one : suc (suc k) - 1 ≡ suc k = omega arith in
    let low : 10 ^ suc k ≤ n = rw one at (f.2 (omega arith)) in
    absurd (omega (arith, one-le-pow (suc k) 10 (omega arith)))
digits_spelled (suc (suc k)) (suc steps) n l f =
    let some = one-le-pow k 10 (omega arith) in
    let one : suc (suc k) - 1 ≡ suc k = omega arith in
    let zero : suc k - 1 ≡ k = omega arith in
    let low : 10 ^ suc k ≤ n = rw one at (f.2 (omega arith)) in
    let ten = pow-suc 10 k in
    let hundred = pow-suc 10 (suc k) in
    let high : n < 10 ^ suc (suc k) = f.1 in
    let rest : IsDigitCount 10 1 (n / 10) (suc k) = (omega arith, omega arith, λ _. rw zero (omega arith)) in
    rw (le-ltb n 10 (omega arith), ← digits_spelled (suc k) steps (n / 10) (omega arith) rest, lt-ltb (n % 10) 10 (mod-lt n (omega arith)))

-- what is spelled in the fewest digits is the number in decimal
pub digits_decimal : (k n : ℕ) → IsDigitCount 10 1 n k → last_digits 10 k n ≡ decimal n
unfolding decimal
digits_decimal k n f = digits_spelled k n n (omega arith) f

-- a 64-bit number has at most 20 digits
pub few_digits : (k n : ℕ) → n < 2 ^ 64 → IsDigitCount 10 1 n k → k ≤ 20
few_digits k n l f = by (leb k 20) refl
  where
    by : (b : Bool) → leb k 20 ≡ b → k ≤ 20
    by true e = leb-true k 20 e
    by false e =
        let more = leb-false k 20 e in
        let low : 10 ^ (k - 1) ≤ n = f.2 (omega arith) in
        let high : 10 ^ 20 ≤ 10 ^ (k - 1) = pow-le-pow_right {n = 10} (omega arith) {i = 20} {j = k - 1} (omega arith) in
        absurd (omega arith)

-- One text, and right after it the next, for which there is room.
pub then_puts : (k : ℕ) {m : ℕ} {a b lent : List ℕ} {at : ℕ} {out : List ℕ} {next : ℕ} {out' : List ℕ} {next' : ℕ} → Puts m a lent at out next
    → at + (m + k) ≤ length lent → (next + k ≤ length out → Puts k b out next out' next') → Puts (m + k) (a ++ b) lent at out' next'
then_puts k {m} {a} {b} {lent} {at} {out} {next} {out'} {next'} first room more =
    let second = more (omega (arith, first.short, first.past, first.whole)) in
    record {
      bytes = second.bytes ∙ rw (first.bytes, first.past, put_put lent at a (omega (arith, first.short)) b);
      past = second.past ∙ rw (first.past, length-append) (omega arith);
      short = rw length-append (omega (arith, first.short, second.short));
      whole = second.whole ∙ first.whole;
    }

pub looser : (k : ℕ) {m : ℕ} {a lent : List ℕ} {at : ℕ} {out : List ℕ} {next : ℕ} → m ≤ k → Puts m a lent at out next → Puts k a lent at out next
looser k l p = record { bytes = p.bytes; past = p.past; short = omega (arith, p.short); whole = p.whole }

-- a number after a space
pub number_put : (n k : ℕ) (lent : List ℕ) (at : ℕ) (out : List ℕ) (next : ℕ) (text out' : List ℕ) (next' : ℕ) → at + 21 ≤ length lent → n < 2 ^ 64
    → IsDigitCount 10 1 n k → k ≡ length (take k text) → take k text ≡ last_digits 10 k n
    → Puts 1 (ascii " ") lent at out next → Puts (length (take k text)) (take k text) out next out' next'
    → Puts 21 (ascii " " ++ decimal n) lent at out' next'
number_put n k lent at out next text out' next' room l f c t p q =
    let few = few_digits k n l f in
    then_puts 20 p room (λ _. rw (t, digits_decimal k n f) at (looser 20 (omega arith) q))

-- text at the start of a buffer
pub puts_starts : {m : ℕ} {text lent out : List ℕ} {n : ℕ} → m ≤ length lent → Puts m text lent 0 out n → Starts text lent out n
unfolding put
puts_starts {m} {text} {lent} {out} {n} room p =
    let whole : n ≡ length text = omega (arith, p.past) in
    let says : take n out ≡ text = rw p.bytes (take_at text (drop (0 + length text) lent) n (omega arith)) in
    record {
      counts = (omega (arith, p.short, p.whole), rw says whole);
      says = says;
      others = rw (p.bytes, p.past) (drop_at text (drop (0 + length text) lent) (0 + length text) (omega arith));
    }

-- the statement leaves one outcome
pub starts_unique : (text lent out out' : List ℕ) (n n' : ℕ) → Starts text lent out n → Starts text lent out' n' → (out ≡ out') × (n ≡ n')
starts_unique text lent out out' n n' p q =
    let same : n ≡ n' = p.counts.1 ∙ rw (p.says, ← q.says) (sym q.counts.1) in
    let whole : out ≡ text ++ drop n lent = sym (take-append-drop n out) ∙ rw (p.says, p.others) in
    let whole' : out' ≡ text ++ drop n' lent = sym (take-append-drop n' out') ∙ rw (q.says, q.others) in
    (whole ∙ rw same (sym whole'), same)
