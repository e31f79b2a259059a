-- The answer of a session's call that moves data, by the step on the task's record.
use Rattle.task_book.specs.Steps as T
use Rattle.book.specs.Book.{Answer, from_task}

abbrev pub transferred : T.Step → Answer
transferred y = from_task y.answer y.after
