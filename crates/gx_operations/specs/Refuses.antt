-- A request that is refused: the line of the first reason.
use Rattle.gx_device.specs.Content.{Content}
use Rattle.gx_play.specs.declared.ending.Ending.{Ending}
use Rattle.gx_play.specs.declared.status.Status.TheVariants as status
use Rattle.gx_play.specs.Endings.{ending_line}
use Rattle.gx_operations.specs.Promises.{Promise, says_line}

abbrev pub refuses : Ending → Content → Promise
refuses why old = says_line status.Refused (ending_line why) old
