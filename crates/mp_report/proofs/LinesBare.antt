-- Free places of lists change no words of a line, nor where it may stand.
use Rattle.std.proofs.Common.{◌≡◌, ◌∷◌, ◌++◌, refl, ap}
use Rattle.mp_model.specs.declared.replies.Reply.{Reply}
use Rattle.mp_model.specs.declared.replies.Reply.TheVariants.{Began, Got, Scanned, Wrote, Committed, CommittedNone, Unknown, RolledBack, Conflict, Held, Full, Skipped, Stopped}
use Rattle.mp_report.specs.declared.read.lines.Line.{Line}
use Rattle.mp_report.specs.declared.read.lines.Line.TheVariants.{Head, Primary, Answered, WentDown, End}
use Rattle.mp_report.specs.declared.read.stands.Stand.{Stand}
use Rattle.mp_report.specs.declared.read.stands.Stand.TheVariants.{Top, Opened, Among, Downs, Ended}
use Rattle.mp_report.specs.Answers.{statement_word, reply_words, wait_words}
use Rattle.mp_report.specs.Bare.{bare_reply}
use Rattle.mp_report.specs.Readable.{IsReply, is_commit}
use Rattle.mp_report.specs.ReadingLines.{line_words, bare_line, IsLine}
use Rattle.mp_report.specs.Grammar.{allowed}

reply_bare : (reply : Reply) → reply_words (bare_reply reply) ≡ reply_words reply
reply_bare (Began view) = refl
reply_bare (Got value) = refl
reply_bare (Scanned rows) = refl
reply_bare (Wrote verb) = refl
reply_bare (Committed cts) = refl
reply_bare CommittedNone = refl
reply_bare (Unknown cts) = refl
reply_bare RolledBack = refl
reply_bare (Conflict verb cts) = refl
reply_bare (Held verb name) = refl
reply_bare (Full verb) = refl
reply_bare Skipped = refl
reply_bare (Stopped by) = refl

is_reply_bare : (reply : Reply) → IsReply (bare_reply reply) → IsReply reply
is_reply_bare (Began view) is = is
is_reply_bare (Got value) is = is
is_reply_bare (Scanned rows) is = is
is_reply_bare (Wrote verb) is = is
is_reply_bare (Committed cts) is = is
is_reply_bare CommittedNone is = is
is_reply_bare (Unknown cts) is = is
is_reply_bare RolledBack is = is
is_reply_bare (Conflict verb cts) is = is
is_reply_bare (Held verb name) is = is
is_reply_bare (Full verb) is = is
is_reply_bare Skipped is = is
is_reply_bare (Stopped by) is = is

pub commit_bare : (reply : Reply) → is_commit (bare_reply reply) ≡ is_commit reply
commit_bare (Began view) = refl
commit_bare (Got value) = refl
commit_bare (Scanned rows) = refl
commit_bare (Wrote verb) = refl
commit_bare (Committed cts) = refl
commit_bare CommittedNone = refl
commit_bare (Unknown cts) = refl
commit_bare RolledBack = refl
commit_bare (Conflict verb cts) = refl
commit_bare (Held verb name) = refl
commit_bare (Full verb) = refl
commit_bare Skipped = refl
commit_bare (Stopped by) = refl

pub words_bare : (l : Line) → line_words (bare_line l) ≡ line_words l
words_bare (Head mode base) = refl
words_bare (Primary primary) = refl
words_bare (Answered answer) = ap (λ ws. statement_word answer.session answer.index ∷ (ws ++ wait_words answer.waits.items)) (reply_bare answer.reply)
words_bare (WentDown down) = refl
words_bare (End commits) = refl

pub is_line_bare : (l : Line) → IsLine (bare_line l) → IsLine l
is_line_bare (Head mode base) is = is
is_line_bare (Primary primary) is = is
is_line_bare (Answered answer) is = record { statement = is.statement; reply = is_reply_bare answer.reply is.reply; waits = is.waits }
is_line_bare (WentDown down) is = is
is_line_bare (End commits) is = is

pub allowed_bare : (stand : Stand) (l : Line) → allowed stand (bare_line l) ≡ allowed stand l
allowed_bare Top (Head mode base) = refl
allowed_bare Top (Primary primary) = refl
allowed_bare Top (Answered answer) = refl
allowed_bare Top (WentDown down) = refl
allowed_bare Top (End commits) = refl
allowed_bare Opened (Head mode base) = refl
allowed_bare Opened (Primary primary) = refl
allowed_bare Opened (Answered answer) = refl
allowed_bare Opened (WentDown down) = refl
allowed_bare Opened (End commits) = refl
allowed_bare (Among primary count) (Head mode base) = refl
allowed_bare (Among primary count) (Primary next) = refl
allowed_bare (Among primary count) (Answered answer) = rw (commit_bare answer.reply) refl
allowed_bare (Among primary count) (WentDown down) = refl
allowed_bare (Among primary count) (End commits) = refl
allowed_bare (Downs count) (Head mode base) = refl
allowed_bare (Downs count) (Primary primary) = refl
allowed_bare (Downs count) (Answered answer) = refl
allowed_bare (Downs count) (WentDown down) = refl
allowed_bare (Downs count) (End commits) = refl
allowed_bare Ended l = refl
