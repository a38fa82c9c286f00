use Rattle.ark_fft.proofs.Yielded.{places-suc, progress}
use Rattle.ark_fft.proofs.domain.elements.ElementsIterator.next.Goals as goal

pub returns-then-self-clause-steps : goal.returns-then-self-clause-steps
returns-then-self-clause-steps g c =
    let s = c.args.self.now in
    places-suc g.F.Field.field g.met.F.Field.field_laws s.size s.index s.current s.group_gen _ c.if-self.true
    (g.met.F.Field.mul_law _ _ _ c.mul-self.ensures)

pub returns-then-self-clause-goes : goal.returns-then-self-clause-goes
returns-then-self-clause-goes g c =
    let s = c.args.self.now in
    progress _ _ _ _ _ tt
    (places-suc g.F.Field.field g.met.F.Field.field_laws s.size s.index s.current s.group_gen _ c.if-self.true
    (g.met.F.Field.mul_law _ _ _ c.mul-self.ensures))
