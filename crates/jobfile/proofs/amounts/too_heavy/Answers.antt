-- Line by line: the product is above the limit, or the next lines decide.
use Rattle.std.proofs.Common.{sym, arith}
use Rattle.jobfile.proofs.Weighing.{weight_start, weight_light, weight_heavy, weight_more, quantity_small, product_small}
use Rattle.jobfile.proofs.amounts.too_heavy.Goals as goal

pub loop-line-init : goal.loop-line-init
loop-line-init c = weight_start c.args.lines.now c.requires

pub overflow_add-product : goal.overflow_add-product
overflow_add-product c = let l = c.loop-line in omega (arith, quantity_small c.args.lines.now l.product l.line-index l.invariant c.loop-line-test.true)

pub overflow_mul-product : goal.overflow_mul-product
overflow_mul-product c = let l = c.loop-line in omega (arith, product_small c.args.lines.now l.product l.line-index l.invariant c.loop-line-test.true)

pub returns-then-product-gt256 : goal.returns-then-product-gt256
returns-then-product-gt256 c =
    let l = c.loop-line in sym (weight_heavy c.args.lines.now l.product l.line-index l.invariant c.loop-line-test.true c.if-product-gt256.true)

pub loop-line-preserved : goal.loop-line-preserved
loop-line-preserved c =
    let l = c.loop-line in weight_more c.args.lines.now l.product l.line-index l.invariant c.loop-line-test.true c.if-product-gt256.false

pub returns : goal.returns
returns c = let l = c.loop-line in sym (weight_light c.args.lines.now l.product l.line-index l.invariant c.loop-line-test.false)
