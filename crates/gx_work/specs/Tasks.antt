-- The lines of the workload's script: what each means, and how it is written.
use Rattle.std.specs.Prelude.{ℕ, ◌+◌, ◌*◌, ◌%◌, ◌==◌, pos, List, [], ◌∷◌, ◌++◌, Some, None, false, if◌then◌else◌, codes}
use Rattle.std.specs.Fmt.{decimal}
use Rattle.gx_values.specs.declared.values.Op.TheVariants as op
use Rattle.gx_values.specs.declared.values.Value.{Value}
use Rattle.gx_values.specs.declared.values.Value.TheVariants as value
use Rattle.gx_commands.specs.declared.command.Find.{Find}
use Rattle.gx_commands.specs.declared.command.Command.{Command}
use Rattle.gx_commands.specs.declared.command.Command.TheVariants as command
use Rattle.gx_work.specs.declared.task.Task.{Task}
use Rattle.gx_work.specs.declared.task.Task.TheVariants as task

abbrev pub int : ℕ → Value
int n = value.Int (pos n)

-- the pay that an employee begins with
abbrev pub pay_of : ℕ → ℕ
pay_of i = 1000 + 37 * i % 100

abbrev pub room_of : ℕ → List ℕ
room_of i = if i % 2 == 0 then [] else codes "r7"

-- the department that an employee works for
abbrev pub department_of : ℕ → ℕ
department_of i = i % 10

-- the employees of the pay that the raises give
abbrev pub by_pay : Find
by_pay =
    record {
      file = 1;
      conds = record { field = 2; op = op.Equal; bound = int 1500 } ∷ [];
      of = None;
      order = record { field = 0; desc = false };
    }

-- the employees of department 3
abbrev pub by_link : Find
by_link =
    record {
      file = 1;
      conds = [];
      of = Some (record { link = 0; owner = int 3 });
      order = record { field = 0; desc = false };
    }

-- the command that a task is
abbrev pub command_of : Task → Command
command_of task.Begin = command.Begin
command_of task.Commit = command.Commit
command_of (task.Department d) =
    command.Insert 0 (int d ∷ value.Text (codes "dept " ++ decimal d) ∷ [])
command_of (task.Employee i) =
    command.Insert 1 (int i ∷ value.Text (codes "emp " ++ decimal i) ∷ int (pay_of i)
    ∷ value.Text (room_of i) ∷ [])
command_of (task.Connection i) = command.Connect 0 (int (department_of i)) (int i)
command_of (task.Raise i) = command.Update 1 (int i) (record { field = 2; value = int 1500 } ∷ [])
command_of task.FindByPay = command.Find by_pay
command_of task.FindByLink = command.Find by_link

-- a room in quotes, between a blank and an LF
abbrev pub room_text : ℕ → List ℕ
room_text i = if i % 2 == 0 then codes " \"\"\n" else codes " \"r7\"\n"

-- its line, with an LF
abbrev pub line_text : Task → List ℕ
line_text task.Begin = codes "begin\n"
line_text task.Commit = codes "commit\n"
line_text (task.Department d) =
    codes "insert dept " ++ decimal d ++ codes " \"dept " ++ decimal d ++ codes "\"\n"
line_text (task.Employee i) =
    codes "insert emp " ++ decimal i ++ codes " \"emp " ++ decimal i ++ codes "\" "
    ++ decimal (pay_of i) ++ room_text i
line_text (task.Connection i) =
    codes "connect works " ++ decimal (department_of i) ++ codes " " ++ decimal i ++ codes "\n"
line_text (task.Raise i) = codes "update emp " ++ decimal i ++ codes " pay 1500\n"
line_text task.FindByPay = codes "find emp where pay = 1500\n"
line_text task.FindByLink = codes "find emp of works 3\n"
