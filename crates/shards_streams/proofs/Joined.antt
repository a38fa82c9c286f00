-- The blocks of a file, joined one after another.
use Rattle.std.proofs.Common.{◌≡◌, ℕ, ◌+◌, ◌-◌, ◌*◌, ◌<◌, ◌≤◌, min, List, [], ◌++◌, length, take, drop, get_or, arith, sym, ◌∙◌, ap, ap₂, subst, refl, length-append, length-drop, append-nil, subst₂, append_assoc, take-append-drop, Option}
use Rattle.std.proofs.lemmas.List.{length-take-le, take_all, take_at, drop_at, take-append-le, get_or_default}
use Rattle.std.specs.Io.KnownBytes.{Appends}
use Rattle.std.proofs.KnownBytes.{Appends-nil, Appends-trans}
use Rattle.ark_bytes.specs.declared.source.Source.{Ghosts}
use Rattle.ark_bytes.specs.Reading.{TakesFewer}
use Rattle.ark_bytes.specs.Transfer.{AppendsBeginning}
use Rattle.ark_bytes.proofs.Transfer.{AppendsBeginning-more, AppendsBeginning-after}
use Rattle.shards_format.specs.Stripes.{Numbering, stripe, stripes}
use Rattle.shards_format.specs.Pieces.{IsBody, block_size, blocks, body_size, chunk, mark_size, part_size}
use Rattle.shards_format.proofs.BlockLists.{stripes_room}
use Rattle.shards_format.proofs.FileLists.{below_rounded, rounded_few, rounded_room, length-chunk, body_more, body_full}
use Rattle.shards_format.proofs.JoinLists.{block_next, small_chunk}
use Rattle.shards_streams.specs.declared.reader.PieceReader.{PieceReader}
use Rattle.shards_streams.specs.Readers.{Gave, reader_state}
use Rattle.shards_streams.specs.Joining.{GavePart, HasRestored, HaveBodies}
use Rattle.shards_streams.proofs.Taken.{gave_nothing, gave_both, known_after, short_fails}
use Rattle.shards_streams.proofs.PartsRead.{some_item, rounded_some, part_room, number_taken}

least_sum : (x size len m : ℕ) → x < len → m ≡ min size (len - x) → min (x + size) len ≡ x + m
least_sum x size len m h e = omega arith

-- where a block ends
block_end : (b size len m : ℕ) → b * size < len → m ≡ min size (len - b * size) → min ((b + 1) * size) len ≡ b * size + m
block_end b size len m h e = ap (λ x. min x len) (let more : (b + 1) * size ≡ b * size + size = omega arith in more) ∙ least_sum (b * size) size len m h e

-- no more stripes than a block has
pub few_stripes : (k want : ℕ) → 0 < k → want ≤ block_size k → stripes k want ≤ 1024
few_stripes k want some few =
    let size_is : block_size k ≡ 1024 * (2 * k) = omega arith in
    rounded_few want (2 * k) 1024 (omega (arith, some)) (subst (λ m. want ≤ m) size_is few)

-- the body of no block
pub no_size : (k i len : ℕ) → 0 < k → 0 ≡ body_size k i (min (0 * block_size k) len)
no_size k i len some =
    let none : min (0 * block_size k) len ≡ 0 * block_size k = omega arith in
    (let e : 0 ≡ 0 * part_size k i = omega arith in e) ∙ sym (ap (body_size k i) none ∙ body_full k i 0 some)

-- that of whole blocks before another one
pub full_size : (k i b len : ℕ) → 0 < k → b < blocks k len → body_size k i (min (b * block_size k) len) ≡ b * part_size k i
full_size k i b len some below =
    let inside = below_rounded b len (block_size k) (omega (arith, some)) below in
    ap (body_size k i) (let e : min (b * block_size k) len ≡ b * block_size k = omega (arith, inside) in e) ∙ body_full k i b some

-- that of a block more
pub more_size : (k i b len want count : ℕ) → 0 < k → b < blocks k len → want ≡ min (block_size k) (len - b * block_size k) → count ≡ stripes k want
    → b * part_size k i + (mark_size k i + 2 * count) ≡ body_size k i (min ((b + 1) * block_size k) len)
more_size k i b len want count some below want_is count_is =
    let size : 0 < block_size k = omega (arith, some) in
    let inside = below_rounded b len (block_size k) size below in
    let more : 0 < want = omega (arith, want_is, inside, size) in
    ap (λ m. b * part_size k i + (mark_size k i + 2 * m)) count_is
    ∙ sym (ap (body_size k i) (block_end b (block_size k) len want inside want_is) ∙ body_more k i b want some more (omega (arith, want_is)))

-- that of all blocks
pub all_blocks : (k len : ℕ) → 0 < k → min (blocks k len * block_size k) len ≡ len
all_blocks k len some =
    let room = rounded_room len (block_size k) (omega (arith, some)) in
    (let e : (m : ℕ) → len ≤ m → min m len ≡ len = λ m h. omega (arith, h) in e _ room)

-- bytes that begin a body
abbrev pub Begins : Numbering → ℕ → ℕ → List ℕ → ℕ → List ℕ → Type 0
Begins number k n file i taken = (rest : List ℕ) × IsBody number k n file i (taken ++ rest)

-- so many bytes and a rest are the first bytes of a body, where they are the first of it and more
prefix : (taken rest body more : List ℕ) → body ++ more ≡ taken ++ rest → length taken ≤ length body → body ≡ taken ++ drop (length taken) body
prefix taken rest body more same few =
    let first : take (length taken) body ≡ taken =
    sym (take-append-le (length taken) body more few) ∙ ap (take (length taken)) same ∙ take_at taken rest (length taken) refl in
    sym (take-append-drop (length taken) body) ∙ ap (λ xs. xs ++ drop (length taken) body) first

module _ {R : Type 0} (source : Ghosts R) (number : Numbering) (k n : ℕ) (places : List ℕ) where
  -- what reader a gave so far
  pub record GaveSoFar (size a : ℕ) (old now : List (PieceReader R)) : Type 0 where
    pub taken : List ℕ
    pub len_is : length taken ≡ body_size k (get_or places a 0) size
    pub gave : (d : PieceReader R) → Gave source (get_or old a d) (get_or now a d) taken

  -- the readers gave their parts of the first b blocks
  pub record ReadBlocks (len b : ℕ) (old now : List (PieceReader R)) : Type 0 where
    pub count : length now ≡ k
    pub each : (a : ℕ) → a < k → GaveSoFar (min (b * block_size k) len) a old now

  -- and these blocks were written
  pub record WroteBlocks (len b : ℕ) (before after : Option (List ℕ)) (old now : List (PieceReader R)) (read : ReadBlocks len b old now) : Type 0 where
    pub bytes : List ℕ
    pub len_is : length bytes ≡ min (b * block_size k) len
    pub appends : Appends before after bytes
    pub file : (file : List ℕ) → ((i : ℕ) → get_or file i 0 < 256) → length file ≡ len → ((a : ℕ) (l : a < k) → Begins number k n file (get_or places a 0) (read.each a l).taken) → bytes ≡ take (b * block_size k) file

  -- both
  pub record JoinedBlocks (len b : ℕ) (before after : Option (List ℕ)) (old now : List (PieceReader R)) : Type 0 where
    pub read : ReadBlocks len b old now
    pub wrote : WroteBlocks len b before after old now read

  pub nothing_read : (len : ℕ) (readers : List (PieceReader R)) → 0 < k → length readers ≡ k → ReadBlocks len 0 readers readers
  nothing_read len readers some count = record {
    count = count;
    each = λ a l. record { taken = []; len_is = no_size k (get_or places a 0) len some; gave = λ d. gave_nothing source (get_or readers a d) };
  }

  pub no_block : (len : ℕ) (s : Option (List ℕ)) (readers : List (PieceReader R)) → 0 < k → length readers ≡ k → JoinedBlocks len 0 s s readers readers
  no_block len s readers some count = record {
    read = nothing_read len readers some count;
    wrote = record {
      bytes = [];
      len_is = (let e : 0 ≡ min (0 * block_size k) len = omega arith in e);
      appends = Appends-nil s;
      file = λ file small size h. (let e : 0 ≡ 0 * block_size k = omega arith in ap (λ m. take m file) e);
    };
  }

  pub all_joined : (len : ℕ) (s t : Option (List ℕ)) (old now : List (PieceReader R)) → 0 < k → JoinedBlocks len (blocks k len) s t old now → HasRestored source number k n places len old now s t
  all_joined len s t old now some joined =
      let room = rounded_room len (block_size k) (omega (arith, some)) in
      let all = all_blocks k len some in
      record {
        each = λ a l. let gave = joined.read.each a l in record { body = gave.taken; len_is = gave.len_is ∙ ap (body_size k (get_or places a 0)) all; gave = gave.gave };
        written = joined.wrote.bytes;
        written_len = joined.wrote.len_is ∙ all;
        appends = joined.wrote.appends;
        file = λ file small size bodies.
            joined.wrote.file file small size (λ a l. ([], subst (IsBody number k n file (get_or places a 0)) (sym (append-nil (joined.read.each a l).taken)) (bodies a l)))
            ∙ take_all (blocks k len * block_size k) file (omega (arith, room, size));
      }

  module _ (len b : ℕ) (old now : List (PieceReader R)) (some : 0 < k) (read : ReadBlocks len b old now) (below : b < blocks k len) where
    inside : b * block_size k < len
    inside = below_rounded b len (block_size k) (omega (arith, some)) below

    whole : min (b * block_size k) len ≡ b * block_size k
    whole = omega (arith, inside)

    taken_len : (a : ℕ) (l : a < k) → length (read.each a l).taken ≡ b * part_size k (get_or places a 0)
    taken_len a l = (read.each a l).len_is ∙ full_size k (get_or places a 0) b len some below

    module _ (want count : ℕ) (want_is : want ≡ min (block_size k) (len - b * block_size k)) (count_is : count ≡ stripes k want) where
      want_some : 0 < want
      want_some = let size : 0 < block_size k = omega (arith, some) in omega (arith, want_is, inside, size)

      count_some : 0 < count
      count_some = subst (λ m. 0 < m) (sym count_is) (rounded_some want (2 * k) (omega (arith, some)) want_some)

      few : count ≤ 1024
      few = subst (λ m. m ≤ 1024) (sym count_is) (few_stripes k want some (omega (arith, want_is)))

      module _ (file : List ℕ) (size : length file ≡ len) where
        chunk_len : want ≡ length (chunk (block_size k) b file)
        chunk_len = want_is ∙ ap (λ m. min (block_size k) (m - b * block_size k)) (sym size) ∙ sym (length-chunk (block_size k) b file)

        pub counts : count ≡ stripes k (length (chunk (block_size k) b file))
        counts = count_is ∙ ap (stripes k) chunk_len

        here : b < blocks k (length file)
        here = subst (λ m. b < blocks k m) (sym size) below

        -- a body has room for what was taken and the next part
        room_for : (i : ℕ) (body : List ℕ) → IsBody number k n file i body → b * part_size k i + (mark_size k i + 2 * count) ≤ length body
        room_for i body is =
            let room = part_room number k n file i b count body [] is here counts in
            let nil = ap length (append-nil body) in
            omega (arith, room, count_some, length-drop (b * part_size k i) (body ++ []), nil)

        begins_from : (h : HaveBodies source number k n file places old) (a : ℕ) (l : a < k) (d : PieceReader R) (x : PieceReader R) (taken : List ℕ) → Gave source (get_or old a d) x taken
            → length taken ≤ b * part_size k (get_or places a 0) + (mark_size k (get_or places a 0) + 2 * count) → Begins number k n file (get_or places a 0) taken
        begins_from h a l d x taken gave short =
            let own = h a d l in
            let all = known_after (reader_state source (get_or old a d)) (reader_state source x) (own.body ++ own.rest) taken own.is gave.takes in
            let room = room_for (get_or places a 0) own.body own.body_is in
            let is = prefix taken all.0 own.body own.rest all.1.1 (omega (arith, room, short)) in
            (drop (length taken) own.body, subst (IsBody number k n file (get_or places a 0)) is own.body_is)

        some_reader : PieceReader R
        some_reader = some_item now (subst (λ m. 0 < m) (sym read.count) some)

        begins_so_far : HaveBodies source number k n file places old → (a : ℕ) (l : a < k) → Begins number k n file (get_or places a 0) (read.each a l).taken
        begins_so_far h a l = begins_from h a l some_reader (get_or now a some_reader) (read.each a l).taken ((read.each a l).gave some_reader) (omega (arith, taken_len a l))

      module _ (s t : Option (List ℕ)) (wrote : WroteBlocks len b s t old now read) where
        -- what was written so far is a beginning of the file
        pub begun : (file : List ℕ) → ((i : ℕ) → get_or file i 0 < 256) → length file ≡ len → HaveBodies source number k n file places old → AppendsBeginning s t file
        begun file small size h =
            let so_far = wrote.file file small size (begins_so_far file size h) in
            record {
              written = wrote.bytes;
              unwritten = drop (b * block_size k) file;
              splits = sym (ap (λ xs. xs ++ drop (b * block_size k) file) so_far ∙ take-append-drop (b * block_size k) file);
              appends = wrote.appends;
            }

      -- a reader with its body that gave less than the next part failed
      pub source_failed : (a : ℕ) (d x : PieceReader R) → a < k → TakesFewer (reader_state source (get_or now a d)) (reader_state source x) (mark_size k (get_or places a 0) + 2 * count)
          → (file : List ℕ) → ((i : ℕ) → get_or file i 0 < 256) → length file ≡ len → HaveBodies source number k n file places old → (reader_state source (get_or old a d)).failures < (reader_state source x).failures
      source_failed a d x l fewer file small size h =
          let own = h a d l in
          let gave = (read.each a l).gave d in
          let all = known_after (reader_state source (get_or old a d)) (reader_state source (get_or now a d)) (own.body ++ own.rest) (read.each a l).taken own.is gave.takes in
          let room = room_for file size (get_or places a 0) own.body own.body_is in
          let enough : mark_size k (get_or places a 0) + 2 * count ≤ length all.0 =
          omega (arith, room, ap length all.1.1, length-append own.body own.rest, length-append (read.each a l).taken all.0, taken_len a l) in
          let failed = short_fails (reader_state source (get_or now a d)) (reader_state source x) all.0 (mark_size k (get_or places a 0) + 2 * count) all.1.0 enough fewer in
          omega (arith, failed, gave.takes.failures)

      module _ (numbers : List ℕ) (new : List (PieceReader R)) (kept : length new ≡ k)
          (parts : (a : ℕ) (d : PieceReader R) → a < k → GavePart source k (get_or places a 0) count numbers a (get_or now a d) (get_or new a d)) where
        pub first_reader : PieceReader R
        first_reader = some_item now (subst (λ m. 0 < m) (sym read.count) some)

        abbrev pub part_at : (a : ℕ) → a < k → List ℕ
        part_at a l = (parts a first_reader l).part

        -- the reader is the same, whatever is asked for beside the list
        pub both_gave : (a : ℕ) (l : a < k) (d : PieceReader R) → Gave source (get_or old a d) (get_or new a d) ((read.each a l).taken ++ part_at a l)
        both_gave a l d =
            let part = parts a first_reader l in
            let was : get_or now a first_reader ≡ get_or now a d = get_or_default now a first_reader d (subst (λ m. a < m) (sym read.count) l) in
            let is : get_or new a first_reader ≡ get_or new a d = get_or_default new a first_reader d (subst (λ m. a < m) (sym kept) l) in
            gave_both source (get_or old a d) (get_or now a d) (get_or new a d) (read.each a l).taken part.part ((read.each a l).gave d)
            (subst₂ (λ (x y : PieceReader R). Gave source x y part.part) was is part.gave)

        pub more_len : (a : ℕ) (l : a < k) → length ((read.each a l).taken ++ part_at a l) ≡ b * part_size k (get_or places a 0) + (mark_size k (get_or places a 0) + 2 * count)
        more_len a l = length-append (read.each a l).taken (part_at a l) ∙ ap₂ (λ x y. x + y) (taken_len a l) (parts a first_reader l).len

        next_len : min ((b + 1) * block_size k) len ≡ b * block_size k + want
        next_len = block_end b (block_size k) len want inside want_is

        abbrev pub gave_more : (a : ℕ) → a < k → GaveSoFar (min ((b + 1) * block_size k) len) a old new
        gave_more a l = record {
          taken = (read.each a l).taken ++ part_at a l;
          len_is = more_len a l ∙ more_size k (get_or places a 0) b len want count some below want_is count_is;
          gave = both_gave a l;
        }

        -- the numbers that were read are those of the file's block
        pub numbers_read : (file : List ℕ) (size : length file ≡ len) → ((a : ℕ) (l : a < k) → Begins number k n file (get_or places a 0) ((read.each a l).taken ++ part_at a l))
            → (a r : ℕ) → a < k → r < count → get_or numbers (a * count + r) 0 ≡ number k n (stripe count (chunk (block_size k) b file) r) (get_or places a 0)
        numbers_read file size begins a r l q =
            let place = get_or places a 0 in
            let part = parts a first_reader l in
            let taken = (read.each a l).taken in
            let body = begins a l in
            let same : drop (b * part_size k place) (((taken ++ part.part) ++ body.0) ++ []) ≡ part.part ++ body.0 =
            ap (drop (b * part_size k place)) (append-nil ((taken ++ part.part) ++ body.0) ∙ append_assoc taken part.part body.0) ∙ drop_at taken (part.part ++ body.0) (b * part_size k place) (taken_len a l) in
            part.row r q ∙ number_taken number k n file place b count ((taken ++ part.part) ++ body.0) [] part.part body.0 body.1 (here file size) (counts file size) few part.len same some r q

        -- and what was taken before begins the bodies
        pub before_of : (file : List ℕ) → ((a : ℕ) (l : a < k) → Begins number k n file (get_or places a 0) ((read.each a l).taken ++ part_at a l)) → (a : ℕ) (l : a < k) → Begins number k n file (get_or places a 0) (read.each a l).taken
        before_of file begins a l =
            let body = begins a l in
            (part_at a l ++ body.0, subst (IsBody number k n file (get_or places a 0)) (append_assoc (read.each a l).taken (part_at a l) body.0) body.1)

        abbrev pub read_more : ReadBlocks len (b + 1) old new
        read_more = record { count = kept; each = gave_more }

        module _ (s t : Option (List ℕ)) (wrote : WroteBlocks len b s t old now read) (restored : List ℕ)
            (restores : (block : List ℕ) → ((i : ℕ) → get_or block i 0 < 256) → count ≡ stripes k (length block)
            → ((a s : ℕ) → a < k → s < count → get_or numbers (a * count + s) 0 ≡ number k n (stripe count block s) (get_or places a 0)) → take (length block) restored ≡ block)
            (restored_len : length restored ≡ 2 * (k * count)) where
          -- the block that was restored
          joined_block : (file : List ℕ) → ((i : ℕ) → get_or file i 0 < 256) → (size : length file ≡ len)
              → ((a : ℕ) (l : a < k) → Begins number k n file (get_or places a 0) ((read.each a l).taken ++ part_at a l)) → take want restored ≡ chunk (block_size k) b file
          joined_block file small size begins =
              ap (λ m. take m restored) (chunk_len file size)
              ∙ restores (chunk (block_size k) b file) (small_chunk (block_size k) b file small) (counts file size) (numbers_read file size begins)

          -- the sink failed within a block
          pub block_begun : (u : Option (List ℕ)) → AppendsBeginning t u (take want restored)
              → (file : List ℕ) → ((i : ℕ) → get_or file i 0 < 256) → length file ≡ len → HaveBodies source number k n file places old → AppendsBeginning s u file
          block_begun u stopped file small size h =
              let begins = λ (a : ℕ) (l : a < k). begins_from file size h a l first_reader (get_or new a first_reader) ((read.each a l).taken ++ part_at a l) (both_gave a l first_reader) (omega (arith, more_len a l)) in
              let so_far = wrote.file file small size (before_of file begins) in
              let both : wrote.bytes ++ take want restored ≡ take ((b + 1) * block_size k) file = ap₂ (λ (x y : List ℕ). x ++ y) so_far (joined_block file small size begins) ∙ block_next (block_size k) b file in
              subst (AppendsBeginning s u) (ap (λ xs. xs ++ drop ((b + 1) * block_size k) file) both ∙ take-append-drop ((b + 1) * block_size k) file)
              (AppendsBeginning-more s u (wrote.bytes ++ take want restored) (drop ((b + 1) * block_size k) file)
              (AppendsBeginning-after s t u wrote.bytes (take want restored) wrote.appends stopped))

          -- one block more
          pub blocks_joined : (u : Option (List ℕ)) → Appends t u (take want restored) → JoinedBlocks len (b + 1) s u old new
          blocks_joined u took =
              let room : want ≤ length restored = subst (λ m. want ≤ m) (ap (λ c. 2 * (k * c)) (sym count_is) ∙ sym restored_len) (stripes_room k want some) in
              record {
                read = read_more;
                wrote = record {
                  bytes = wrote.bytes ++ take want restored;
                  len_is = length-append wrote.bytes (take want restored) ∙ ap₂ (λ x y. x + y) (wrote.len_is ∙ whole) (length-take-le want restored room) ∙ sym next_len;
                  appends = Appends-trans s t u wrote.bytes (take want restored) wrote.appends took;
                  file = λ file small size begins.
                      ap₂ (λ (x y : List ℕ). x ++ y) (wrote.file file small size (before_of file begins)) (joined_block file small size begins) ∙ block_next (block_size k) b file;
                };
              }
