use Rattle.std.proofs.Common.{◌*◌, [], ◌∷◌, length, sym, ap, ◌∙◌, arith}
use Rattle.ark_math_variables.specs.Multilinear.{fixed}
use Rattle.ark_math.specs.Univariate.{of_list}
use Rattle.ark_sum_check.proofs.BoundTables.{AreBound-halves, AreBound-more, AreBound-next, AreBound-tables}
use Rattle.ark_sum_check.proofs.tables.bind_each.Goals as goal

pub bind_first-requires-clause-whole : goal.bind_first-requires-clause-whole
bind_first-requires-clause-whole g c =
    let t = c.index-tables-i.result in
    ap (λ w. length w.items) (sym c.index-tables-i.is)
    ∙ AreBound-next g.F.Field.field c.args.x c.args.half c.args.tables.now (2 * c.args.half) c.loop-i.i c.loop-i.tables t (omega arith) c.index-tables-i.is c.requires.whole c.loop-i.invariant

pub loop-i-preserved : goal.loop-i-preserved
loop-i-preserved g c =
    let K = g.F.Field.field in
    let t = c.index-tables-i.result in
    AreBound-more K c.args.x c.args.half c.args.tables.now c.loop-i.i c.loop-i.tables t c.bind_first.new.table (omega arith) c.index-tables-i.is c.loop-i.invariant
    (c.bind_first.ensures.values ∙ ap (λ w. fixed K (of_list K w.items) (c.args.x ∷ [])) (sym c.index-tables-i.is)) c.bind_first.ensures.len

pub returns-clause-values : goal.returns-clause-values
returns-clause-values g c =
    AreBound-tables g.F.Field.field c.args.x c.args.half c.args.tables.now g.met.F.Field.field_laws c.loop-i.i c.loop-i.tables (omega arith) c.loop-i.invariant

pub returns-clause-len : goal.returns-clause-len
returns-clause-len g c =
    AreBound-halves g.F.Field.field c.args.x c.args.half c.args.tables.now c.loop-i.i c.loop-i.tables (omega arith) c.loop-i.invariant
