-- Where it answers true, the value is good, if there is one.
use Rattle.replace_run.proofs.Tested.{no_value, one_value}
use Rattle.replace_run.proofs.good_value.Goals as goal

pub returns-in-Some : goal.returns-in-Some
returns-in-Some c = λ e. one_value c.in-Some.is (c.good.ensures e)

pub returns-in-None : goal.returns-in-None
returns-in-None c = λ _. no_value c.in-None.is
