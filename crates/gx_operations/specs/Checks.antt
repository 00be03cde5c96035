-- `check`: what leaves the equation has.
use Rattle.gx_device.specs.Content.{Content}
use Rattle.gx_play.specs.declared.status.Status.TheVariants as status
use Rattle.gx_play.specs.Summaries.{summary_of, accepted_line}
use Rattle.gx_operations.specs.Given.{Given}
use Rattle.gx_operations.specs.Promises.{Promise, says_line}

abbrev pub checks : Given → Content → Promise
checks g old = says_line status.Done (accepted_line (summary_of g.typing.specs)) old
