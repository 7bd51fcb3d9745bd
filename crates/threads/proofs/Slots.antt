-- What a step does to the slots, and what its answer depends on: every field of the statement holds. Assumes nothing.
use Rattle.threads.specs.Slots.{Slots}
use Rattle.threads.proofs.WhichAnswer.{no_slot, not_in_use, invalid, call, fork_operands, exit_operands, exit, fork, fork_full, eleven}
use Rattle.threads.proofs.WhatChanges.{sized, refusal, elsewhere, fork_elsewhere, free_until_forked, taken_again}
use Rattle.threads.proofs.Leftovers.{leftovers}
use Rattle.threads.proofs.Depending.{answer_same, fork_code, fork_room}

pub slots : Slots
slots =
    record {
      sized = sized;
      no_slot = no_slot;
      not_in_use = not_in_use;
      invalid = invalid;
      call = call;
      fork_operands = fork_operands;
      exit_operands = exit_operands;
      exit = exit;
      fork = fork;
      fork_full = fork_full;
      eleven = eleven;
      refusal = refusal;
      elsewhere = elsewhere;
      fork_elsewhere = fork_elsewhere;
      free_until_forked = free_until_forked;
      taken_again = taken_again;
      answer = answer_same;
      fork_code = fork_code;
      fork_room = fork_room;
      leftovers = leftovers;
    }
