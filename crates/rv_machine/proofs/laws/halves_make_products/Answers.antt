use Rattle.rv_machine.proofs.Products.{halves_make_products}
use Rattle.rv_machine.proofs.laws.halves_make_products.Goals as goal

pub returns : goal.returns
returns c = halves_make_products
