use Rattle.std.proofs.Common.{rules, arith}
use Rattle.shards_format.specs.declared.header.Header.{Header}
use Rattle.shards_buffers.proofs.opening.own_header.Goals as goal

pub returns-in_err-header-clause-none : goal.returns-in_err-header-clause-none
returns-in_err-header-clause-none g c = λ none i label_len rest below short same.
    let header : Header = record {
      k = g.C.StripeCode.k_of c.args.code.now;
      n = g.C.StripeCode.n_of c.args.code.now;
      number = i;
      label_len = label_len;
      some = omega (arith, c.k-k.ensures.positive, c.k-k.ensures.k);
      fits = omega (arith, c.k-k.ensures.fits, c.k-k.ensures.k);
      few = omega (arith, c.n-n.ensures.few, c.n-n.ensures.n);
      below = below;
      short = short;
    } in
    c.in_err-header.ensures.none (search rules) header rest same
