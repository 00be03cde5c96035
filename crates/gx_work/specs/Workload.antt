-- The script of the workload.
use Rattle.std.specs.Prelude.{ℕ, ◌+◌, ◌-◌, ◌*◌, ◌/◌, min, List, [], ◌∷◌, ◌++◌, map}
use Rattle.std.specs.List.{flat_map, range_with_len}
use Rattle.gx_commands.specs.declared.command.Command.{Command}
use Rattle.gx_work.specs.declared.task.Task.{Task}
use Rattle.gx_work.specs.declared.task.Task.TheVariants as task
use Rattle.gx_work.specs.Tasks.{command_of, line_text}

-- tasks in a transaction of their own
abbrev pub in_transaction : List Task → List Task
in_transaction tasks = task.Begin ∷ tasks ++ task.Commit ∷ []

-- the ten departments, with the numbers from 0 on
abbrev pub departments : List Task
departments = in_transaction (map task.Department (range_with_len 0 10))

-- an employee is inserted, and connected with a department
abbrev pub joining : ℕ → List Task
joining i = task.Employee i ∷ task.Connection i ∷ []

-- twenty employees with successive numbers from 1 on, or as many as there are left, for the group
-- of this number from 0 on
abbrev pub group : ℕ → ℕ → List Task
group n number =
    in_transaction (flat_map joining (range_with_len (20 * number + 1) (min 20 (n - 20 * number))))

abbrev pub employees : ℕ → List Task
employees n = flat_map (group n) (range_with_len 0 ((n + 19) / 20))

-- each third employee
abbrev pub raises : ℕ → List Task
raises n = in_transaction (map (λ k. task.Raise (3 * k)) (range_with_len 1 (n / 3)))

-- all that changes something
abbrev pub changes : ℕ → List Task
changes n = departments ++ employees n ++ raises n

-- the workload of n records
abbrev pub tasks : ℕ → List Task
tasks n = changes n ++ task.FindByPay ∷ task.FindByLink ∷ []

abbrev pub work_commands : ℕ → List Command
work_commands n = map command_of (tasks n)

abbrev pub lines_text : List Task → List ℕ
lines_text ts = flat_map line_text ts

abbrev pub work_script : ℕ → List ℕ
work_script n = lines_text (tasks n)
