-- Where a source has no header or no trailer of a piece left.
use Rattle.std.proofs.Common.{◌≡◌, ℕ, ◌+◌, ◌*◌, ◌<◌, ◌≤◌, ◌^◌, List, [], ◌++◌, length, take, length-append, append_assoc, append-nil, ap, sym, ◌∙◌, refl, arith, Some}
use Rattle.std.proofs.lemmas.List.{take_at, nil_from_length}
use Rattle.ark_bytes.specs.Reading.{SourceState, Takes, TakesFewer}
use Rattle.shards_format.specs.Headers.{header_bytes}
use Rattle.shards_format.specs.Trailers.{trailer_bytes}
use Rattle.shards_format.specs.declared.header.Header.{Header}
use Rattle.shards_format.proofs.HeaderLists.{same_len}
use Rattle.shards_format.proofs.TrailerLists.{trailer_len}
use Rattle.shards_streams.specs.Checking.{LacksHeader, LacksTrailer}
use Rattle.shards_streams.proofs.Taken.{known_after, short_fails}

abbrev bytes_of : Header → List ℕ
bytes_of h = header_bytes h.k h.n h.number h.label_len

head_len : (h : Header) → length (bytes_of h) ≡ 24
head_len h = refl

-- the header could not be read
pub no_header_read : (a b : SourceState) → TakesFewer a b 24 → LacksHeader a b
no_header_read a b fewer = λ h label rest len is.
    short_fails a b ((bytes_of h ++ label) ++ rest) 24 is (omega (arith, length-append (bytes_of h ++ label) rest, length-append (bytes_of h) label, head_len h)) fewer

module _ (a b : SourceState) (head : List ℕ) (takes : Takes a b head) (len : length head ≡ 24) where
  -- what was read is the header
  read_is : (h : Header) (label rest : List ℕ) → a.remaining ≡ Some ((bytes_of h ++ label) ++ rest) → head ≡ bytes_of h
  read_is h label rest is =
      let all = known_after a b ((bytes_of h ++ label) ++ rest) head is takes in
      sym (take_at head all.0 24 len) ∙ ap (take 24) (sym all.1.1 ∙ append_assoc (bytes_of h) label rest) ∙ take_at (bytes_of h) (label ++ rest) 24 (head_len h)

  pub no_header_there : ((h : Header) → head ≡ bytes_of h → ⊥) → (c : SourceState) → c.failures ≡ b.failures → LacksHeader a c
  no_header_there none c same = λ h label rest long is. absurd (none h (read_is h label rest is))

  pub no_label_read : (found : Header) → head ≡ bytes_of found → (c : SourceState) → TakesFewer b c found.label_len → LacksHeader a c
  no_label_read found is_found c fewer = λ h label rest long is.
      let all = known_after a b ((bytes_of h ++ label) ++ rest) head is takes in
      let one : found.label_len ≡ h.label_len =
      same_len found.k found.n found.number found.label_len h.k h.n h.number h.label_len (sym is_found ∙ read_is h label rest is) (omega (arith, found.short)) (omega (arith, h.short)) in
      let sizes = ap length all.1.1 in
      let enough : found.label_len ≤ length all.0 =
      omega (arith, one, sizes, len, long, length-append head all.0, length-append (bytes_of h ++ label) rest, length-append (bytes_of h) label, head_len h) in
      let failed = short_fails b c all.0 found.label_len all.1.0 enough fewer in
      omega (arith, failed, takes.failures)

-- the trailer could not be read
pub no_trailer_read : (n : ℕ) (a b : SourceState) → TakesFewer a b (32 * n + 40) → LacksTrailer n a b
no_trailer_read n a b fewer = λ digests len count few is.
    short_fails a b (trailer_bytes digests len) (32 * n + 40) is (omega (arith, trailer_len digests len, count)) fewer

module _ (n : ℕ) (a b : SourceState) (tail : List ℕ) (takes : Takes a b tail) (len : length tail ≡ 32 * n + 40) where
  tail_is : (digests : List ℕ) (l : ℕ) → length digests ≡ 32 * n → a.remaining ≡ Some (trailer_bytes digests l) → (tail ≡ trailer_bytes digests l) × (b.remaining ≡ Some [])
  tail_is digests l count is =
      let all = known_after a b (trailer_bytes digests l) tail is takes in
      let none : all.0 ≡ [] = nil_from_length all.0 (omega (arith, ap length all.1.1, length-append tail all.0, len, count, trailer_len digests l)) in
      (sym (append-nil tail) ∙ ap (λ xs. tail ++ xs) (sym none) ∙ sym all.1.1, all.1.0 ∙ ap Some none)

  pub no_trailer_there : ((digests : List ℕ) (l : ℕ) → length digests ≡ 32 * n → l < 2 ^ 62 → tail ≡ trailer_bytes digests l → ⊥) → (c : SourceState) → LacksTrailer n a c
  no_trailer_there none c = λ digests l count few is. absurd (none digests l count few (tail_is digests l count is).0)

  pub more_there : (c : SourceState) (more : List ℕ) → 0 < length more → Takes b c more → LacksTrailer n a c
  more_there c more some behind = λ digests l count few is.
      let left = (tail_is digests l count is).1 in
      let all = known_after b c [] more left behind in
      absurd (omega (arith, ap length all.1.1, length-append more all.0, some))

  pub end_failed : (c : SourceState) → b.failures < c.failures → LacksTrailer n a c
  end_failed c failed = λ digests l count few is. omega (arith, failed, takes.failures)
