-- `compare::clock_cases::number_of` is safe: but for the sign, the bits of a NaN are more than those of infinity. Assumes nothing.
use Rattle.std.proofs.Common.{rules}
use Rattle.std.proofs.lemmas.Float.{not_nan_f64_bits}
use Rattle.compare.proofs.clock_cases.number_of.Goals as goal

pub float_from_bits-result : goal.float_from_bits-result
float_from_bits-result c = not_nan_f64_bits _ (search rules)
