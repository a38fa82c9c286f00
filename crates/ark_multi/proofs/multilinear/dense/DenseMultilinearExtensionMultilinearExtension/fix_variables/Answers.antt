use Rattle.std.proofs.Common.{◌≡◌, ◌*◌, ◌-◌, ◌^◌, length, sym, ap, ◌∙◌, arith}
use Rattle.ark_math_variables.proofs.Polynomials.Cube.{pow_rest}
use Rattle.ark_tables.proofs.TableLists.{pow_left}
use Rattle.ark_multi.proofs.multilinear.dense.DenseMultilinearExtensionMultilinearExtension.fix_variables.Goals as goal

pub fixed_table-requires : goal.fixed_table-requires
fixed_table-requires g c =
    let m = c.args.self.now.num_vars in
    let j = length c.args.point.now in (
      2 ^ (m - j),
      pow_rest m j c.requires ∙ sym c.args.self.now.whole ∙ sym (ap length c.deref.ensures.value),
    )

pub invariant_of-result : goal.invariant_of-result
invariant_of-result g c =
    let m = c.args.self.now.num_vars in
    let j = length c.args.point.now in
    let whole : length c.in_ok-fixed_table.field-0.items * 2 ^ j ≡ 2 ^ m = c.in_ok-fixed_table.ensures.len ∙ ap length c.deref.ensures.value ∙ c.args.self.now.whole in
    let once : 2 ^ m ≡ 1 * 2 ^ m = omega arith in
    let left : length c.in_ok-fixed_table.field-0.items ≡ 2 ^ (m - j) =
    pow_left (length c.in_ok-fixed_table.field-0.items) 1 j m c.requires (whole ∙ once) ∙ (let e : 1 * 2 ^ (m - j) ≡ 2 ^ (m - j) = omega arith in e) in
    record {
      whole = left;
      few = let l = c.args.self.now.few in omega arith;
    }
