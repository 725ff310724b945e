-- What is said of the whole by a reply that is sent.
use Rattle.std.proofs.Common.{◌≡◌, ℕ, ◌≤◌, List, take, Option, Some, Result, Ok, Err, IfOk, IsTrue, refl, sym, ap, ◌∙◌, arith, inl, inr}
use Rattle.std.specs.Io.KnownBytes.{append_known}
use Rattle.io_shelf.specs.Doors.{SeenLink}
use Rattle.job_keeper.specs.Keeping.{SeenKeeper}
use Rattle.job_keeper.specs.declared.keeper.KeepError.{KeepError}
use Rattle.job_keeper.specs.declared.keeper.KeepError.TheVariants as keep_error
use Rattle.desk_http.specs.Answering.{IsGiven, is_by_bytes, keeper_failure, memory_failure}
use Rattle.desk_http.specs.Asking.{Asks}
use Rattle.desk_http.specs.Serving.{Serves, IsReplyMade, seen_connection}
use Rattle.desk_http.specs.inner.Steps.{AnswersAll, IsCaused}
use Rattle.desk_http.specs.inner.Wire.{OnlyReads, Sends}
use Rattle.desk_http.specs.declared.asked.Asked.{Asked}
use Rattle.desk_http.specs.declared.reply.Reply.{Reply}
use Rattle.desk_http.specs.declared.served.ReadError.{ReadError}
use Rattle.desk_http.specs.declared.served.ReadError.TheVariants as read_error
use Rattle.desk_http.specs.declared.served.Served.{Served}
use Rattle.desk_http.specs.declared.served.Served.TheVariants as served

-- a request that the link fails to give
abbrev not_given : Result Asked ReadError
not_given = Err read_error.Failed

-- a request for which there is no memory
abbrev not_held : Result Asked ReadError
not_held = Err read_error.NoMemory

-- a request that was read
abbrev given : Asked → Result Asked ReadError
given asked = Ok asked

-- a read of a request that fails
pub broken_off : (keeper : SeenKeeper) (old new : SeenLink) → OnlyReads old new not_given
    → Serves (seen_connection keeper old) (seen_connection keeper new) served.LinkFault
broken_off keeper old new reads = record {
  rose = reads.failed refl;
  turn = inl (record { broken = reads.broken; written = reads.written; kept = refl });
}

-- a reply that was made, and is sent over a link of which a request was read
sent : (kold knew : SeenKeeper) (lold lmid lnew : SeenLink) (reply : Reply) (result : Served)
    → IsReplyMade reply (seen_connection kold lold) (seen_connection knew lnew) → lmid.written ≡ lold.written → lnew.broken ≡ lold.broken
    → lold.faults ≤ lmid.faults → Sends reply result lmid lnew
    → Serves (seen_connection kold lold) (seen_connection knew lnew) result
sent kold knew lold lmid lnew reply (served.Replied code) made same_written same_broken later sends = record {
  reply = reply;
  is = made;
  status_is = sends.0;
  written = sends.1 ∙ ap (λ (w : Option (List ℕ)). append_known w reply.text) same_written;
}
sent kold knew lold lmid lnew reply served.LinkFault made same_written same_broken later sends = record {
  rose = omega (arith, later, sends.0);
  turn = inr (record {
    unbroken = same_broken;
    reply = reply;
    is = made;
    count = sends.1.count;
    written = sends.1.is ∙ ap (λ (w : Option (List ℕ)). append_known w (take sends.1.count reply.text)) same_written;
  });
}

-- the reply that memory ran out in reading
pub unheld : (keeper : SeenKeeper) (lold lmid lnew : SeenLink) (reply : Reply) (result : Served)
    → OnlyReads lold lmid not_held → reply ≡ memory_failure → lnew.broken ≡ lmid.broken → Sends reply result lmid lnew
    → Serves (seen_connection keeper lold) (seen_connection keeper lnew) result
unheld keeper lold lmid lnew reply result reads is same sends =
    sent keeper keeper lold lmid lnew reply result (inr (inl (record { is = is; kept = refl })))
    reads.written (same ∙ reads.broken) reads.later sends

module _ (kold knew : SeenKeeper) (lold lmid lnew : SeenLink) (asked : Asked) (reads : OnlyReads lold lmid (given asked)) (same : lnew.broken ≡ lmid.broken) where
  -- the reply to what is asked
  pub answered : (reply : Reply) (result : Served)
      → ((input : List ℕ) → lold.left ≡ Some input → Asks input asked)
      → AnswersAll asked kold.projects knew.projects (Ok reply) → IsGiven asked reply
      → (IsTrue (is_by_bytes asked) → knew.projects ≡ kold.projects)
      → Sends reply result lmid lnew → Serves (seen_connection kold lold) (seen_connection knew lnew) result
  answered reply result asks answers is_given by_bytes sends =
      sent kold knew lold lmid lnew reply result
      (inl (record { asked = asked; asks = asks; given = is_given; by_bytes = by_bytes; told = answers }))
      reads.written (same ∙ reads.broken) reads.later sends

  -- the reply that memory ran out in answering
  pub lacking : (reply : Reply) (result : Served) → reply ≡ memory_failure → knew.projects ≡ kold.projects
      → Sends reply result lmid lnew → Serves (seen_connection kold lold) (seen_connection knew lnew) result
  lacking reply result is kept sends =
      sent kold knew lold lmid lnew reply result (inr (inl (record { is = is; kept = kept })))
      reads.written (same ∙ reads.broken) reads.later sends

  -- the reply that the keeper failed
  pub failing : (reply : Reply) (result : Served) → reply ≡ keeper_failure → knew.projects ≡ kold.projects
      → (failed : Result Reply KeepError) → failed ≡ Err keep_error.Failed → IsCaused kold knew failed
      → Sends reply result lmid lnew → Serves (seen_connection kold lold) (seen_connection knew lnew) result
  failing reply result is kept failed is_failed cause sends =
      sent kold knew lold lmid lnew reply result
      (inr (inr (record { is = is; kept = kept; rose = cause.failed is_failed })))
      reads.written (same ∙ reads.broken) reads.later sends
