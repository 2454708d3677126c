use Rattle.matching.proofs.Checks.{test_is_exact}
use Rattle.matching.proofs.test_is_exact.Goals as goal

pub returns : goal.returns
returns g c = test_is_exact
