-- What an error of a file means.
use Rattle.std.specs.declared.io.ErrorKind.{ErrorKind}
use Rattle.std.specs.declared.io.ErrorKind.TheVariants as kind
use Rattle.gx_device.specs.declared.device.FetchStop.{FetchStop}
use Rattle.gx_device.specs.declared.device.FetchStop.TheVariants as stop
use Rattle.gx_device.specs.declared.device.AttachStop.{AttachStop}
use Rattle.gx_device.specs.declared.device.AttachStop.TheVariants as attach

-- A path that leads to no file names no text. All else but want of memory is a fault.
abbrev pub meaning : ErrorKind → FetchStop
meaning kind.NotFound = stop.Missing
meaning kind.NotADirectory = stop.Missing
meaning kind.IsADirectory = stop.Missing
meaning kind.InvalidInput = stop.Missing
meaning kind.InvalidFilename = stop.Missing
meaning kind.OutOfMemory = stop.NoMemory
meaning _ = stop.Fault

-- the same of a device that is to be opened
abbrev pub open_stop : ErrorKind → AttachStop
open_stop kind.NotFound = attach.Missing
open_stop kind.NotADirectory = attach.Missing
open_stop kind.IsADirectory = attach.Missing
open_stop kind.InvalidInput = attach.Missing
open_stop kind.InvalidFilename = attach.Missing
open_stop kind.OutOfMemory = attach.NoMemory
open_stop _ = attach.Fault

-- A device that is to be made can't be where something stands. All else but want of memory is a
-- fault.
abbrev pub make_stop : ErrorKind → AttachStop
make_stop kind.AlreadyExists = attach.Exists
make_stop kind.OutOfMemory = attach.NoMemory
make_stop _ = attach.Fault
