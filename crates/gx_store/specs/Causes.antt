-- What the refusals of a machine and of a journal are here.
use Rattle.gx_device.specs.declared.device.AttachStop.{AttachStop}
use Rattle.gx_device.specs.declared.device.AttachStop.TheVariants as attach
use Rattle.gx_journal.specs.declared.opening.Unopened.{Unopened as NoJournal}
use Rattle.gx_journal.specs.declared.opening.Unopened.TheVariants as journal
use Rattle.gx_store.specs.declared.unopened.Unopened.{Unopened}
use Rattle.gx_store.specs.declared.unopened.Unopened.TheVariants as unopened

abbrev pub not_attached : AttachStop → Unopened
not_attached attach.Missing = unopened.Missing
not_attached attach.Exists = unopened.Exists
not_attached attach.Fault = unopened.Fault
not_attached attach.NoMemory = unopened.NoMemory

abbrev pub no_journal : NoJournal → Unopened
no_journal journal.Fault = unopened.Fault
no_journal journal.NoMemory = unopened.NoMemory
no_journal journal.NoDatabase = unopened.NoDatabase
