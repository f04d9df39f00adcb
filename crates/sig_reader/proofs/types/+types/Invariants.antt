use Rattle.std.proofs.Common.{◌≡◌, ◌+◌, ◌-◌, ◌*◌}
use Rattle.sig_reader.specs.Reading.{many, params_in, type_in}
use Rattle.sig_reader.proofs.Lists.{behind}
use Rattle.sig_reader.proofs.types.+types.Given as goal

abbrev pub decreases-read_type : goal.decreases-read_type
decreases-read_type l = 16 * l.levels

abbrev pub decreases-type_above : goal.decreases-type_above
decreases-type_above l = 16 * l.below + 15

abbrev pub decreases-after_element : goal.decreases-after_element
decreases-after_element l = 16 * l.levels + 14

abbrev pub decreases-method : goal.decreases-method
decreases-method l = 16 * l.levels + 13

abbrev pub decreases-params : goal.decreases-params
decreases-params l = 16 * l.levels + 12

abbrev pub decreases-param : goal.decreases-param
decreases-param l = 16 * l.levels + 11

abbrev pub decreases-result_type : goal.decreases-result_type
decreases-result_type l = 16 * l.levels + 11

abbrev pub decreases-by_ref : goal.decreases-by_ref
decreases-by_ref l = 16 * l.levels + 10

abbrev pub decreases-pointed : goal.decreases-pointed
decreases-pointed l = 16 * l.levels + 10

abbrev pub decreases-instance : goal.decreases-instance
decreases-instance l = 16 * l.levels + 10

abbrev pub decreases-arguments : goal.decreases-arguments
decreases-arguments l = 16 * l.levels + 9

abbrev pub invariant-arguments-loop : goal.invariant-arguments-loop
invariant-arguments-loop l =
    behind l.all (many (type_in l.levels) (l.count - l.counter) l.rest) ≡ many (type_in l.levels) l.count l.b

abbrev pub invariant-params-loop : goal.invariant-params-loop
invariant-params-loop l =
    behind l.all (params_in (type_in l.levels) l.allowed (l.count - l.counter) l.rest)
    ≡ params_in (type_in l.levels) l.vararg l.count l.b
