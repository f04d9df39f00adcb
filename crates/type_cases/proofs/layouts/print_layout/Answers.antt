use Rattle.std.proofs.Common.{rules, sym}
use Rattle.native_layout.proofs.Folds.{in_order_struct}
use Rattle.type_cases.proofs.layouts.print_layout.Goals as goal

pub layout-requires : goal.layout-requires
layout-requires c = rw (sym (in_order_struct c.in-Struct.s)) (search (rules, c.is_in_order.ensures, c.in-Struct.is))
