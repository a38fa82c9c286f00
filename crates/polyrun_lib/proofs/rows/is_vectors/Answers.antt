use Rattle.std.proofs.Common.{◌∙◌, ap, string_bytes}
use Rattle.std.specs.Prelude.{bytes_eq, codes}
use Rattle.polyrun_lib.proofs.Commands.{map-first}
use Rattle.polyrun_lib.proofs.Checking.{vectors-tells}
use Rattle.polyrun_lib.proofs.rows.is_vectors.Goals as goal

pub returns : goal.returns
returns c =
    vectors-tells _ _ _ c.eq.result (map-first string_bytes c.args.words.now c.name-item.result c.in-len1-up.len_at_least c.name-item.is)
    (c.eq.ensures ∙ ap (λ name. bytes_eq name (codes "vectors")) c.as_str.ensures.value)
