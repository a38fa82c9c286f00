use Rattle.std.proofs.Common.{◌≡◌, ℕ, ◌<◌, ◌≤◌, ◌*◌, ◌+◌, ◌-◌, length, get_or, take, drop, List, [], map, sym, subst, ap, ◌∙◌, Bor}
use Rattle.std.proofs.lemmas.List.{get_or-map}
use Rattle.shards_format.specs.Parts.{number_in}
use Rattle.shards_format.specs.Pieces.{chunk, part_size}
use Rattle.shards_format.proofs.BlockLists.{row_len}
use Rattle.shards_format.proofs.JoinLists.{rows_more}
use Rattle.shards_format.proofs.reading.read_parts.Goals as goal

pub loop-a-preserved : goal.loop-a-preserved
loop-a-preserved c =
    let a = c.loop-a.a in
    let count = c.args.count in
    let places = c.args.places.now in
    let k = length places in
    let bodies = c.args.bodies.now in
    let view : Bor (List ℕ) → List ℕ = λ body. body.now in
    let part_of : ℕ → List ℕ = λ i. chunk (part_size k (get_or places i 0)) c.args.b (get_or (map view bodies) i []) in
    let len : length c.loop-a.numbers ≡ k * count = c.loop-a.auto.numbers ∙ c.requires.len in
    let width = a * count + count - a * count in
    let row : length (take width (drop (a * count) c.loop-a.numbers)) ≡ count = row_len a k count c.loop-a.numbers c.loop-a-test.true len in
    let size : length c.read_part.new.numbers ≡ count = c.read_part.auto.numbers ∙ row in
    let inside : a < length bodies = subst (λ m. a < m) (sym c.requires.bodies) c.loop-a-test.true in
    let body_is : c.chunk-part.result.now ≡ part_of a =
    c.chunk-part.ensures ∙ ap (λ m. chunk m c.args.b (get_or bodies a (record { ref_ptr = (0, 0); now = [] })).now) c.part_size.ensures
    ∙ ap (chunk (part_size k (get_or places a 0)) c.args.b) (sym (get_or-map view bodies a (record { ref_ptr = (0, 0); now = [] }) [] inside)) in
    record {
      numbers_are = rows_more (λ i s x. x ≡ number_in k (get_or places i 0) (part_of i) s) a k count width c.loop-a.numbers c.read_part.new.numbers c.loop-a-test.true len size
          c.loop-a.invariant.numbers_are
          (λ s l. c.read_part.ensures.numbers s (subst (λ m. s < m) (sym row) l) ∙ ap (λ xs. number_in k (get_or places a 0) xs s) body_is);
      small = rows_more (λ _ _ x. x ≤ 65536) a k count width c.loop-a.numbers c.read_part.new.numbers c.loop-a-test.true len size
          c.loop-a.invariant.small
          (λ s l. c.read_part.ensures.fits s (subst (λ m. s < m) (sym row) l));
    }
