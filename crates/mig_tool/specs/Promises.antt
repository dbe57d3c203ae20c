-- What the program promises of each command.
use Rattle.mig_tool_report.specs.Promises.{Promise}
use Rattle.mig_tool_report.specs.declared.command.Command.{Command}
use Rattle.mig_tool_report.specs.declared.command.Command.TheVariants.{Normalise, Restore, Verify, Convert, Save, Exercise, Walk, WalkImage, Relay, Show}
use Rattle.mig_tool_guest.specs.Promises.{convert_file_promise, convert_promise, normalise_file_promise, normalise_promise, relay_promise, restore_file_promise, restore_promise, show_promise, verify_promise, walk_image_promise, walk_promise}
use Rattle.mig_tool_save.specs.Promises.{exercise_promise, save_promise}

abbrev pub promise_of : Command → Promise
promise_of Normalise = normalise_promise
promise_of (Restore base) = restore_promise base
promise_of Verify = verify_promise
promise_of Convert = convert_promise
promise_of Save = save_promise
promise_of (Exercise seed n) = exercise_promise seed n
promise_of (Walk id at) = walk_promise id at
promise_of (WalkImage id at) = walk_image_promise id at
promise_of Relay = relay_promise
promise_of Show = show_promise

-- What it promises of each where the input is a file that is read by place: the same, but that what is normalised,
-- converted or restored may have been written in part where a read of the file fails.
abbrev pub promise_of_file : Command → Promise
promise_of_file Normalise = normalise_file_promise
promise_of_file (Restore base) = restore_file_promise base
promise_of_file Verify = verify_promise
promise_of_file Convert = convert_file_promise
promise_of_file Save = save_promise
promise_of_file (Exercise seed n) = exercise_promise seed n
promise_of_file (Walk id at) = walk_promise id at
promise_of_file (WalkImage id at) = walk_image_promise id at
promise_of_file Relay = relay_promise
promise_of_file Show = show_promise
