-- The limits that are run, and the edges of word rights, computed on the worked image. Assumes nothing.
use Rattle.std.specs.Prelude.{Ok, Err, ◌≡◌, refl, true, false, [], ◌∷◌}
use Rattle.bits.specs.Words.{word_at, with_word}
use Rattle.image.specs.declared.Layout.{Layout}
use Rattle.image.specs.Layout.{blocks_in}
use Rattle.image.specs.Worked.{worked, worked_layout}
use Rattle.frames.specs.Frames.{span}
use Rattle.rights.specs.declared.Fault.TheVariants.{Other, PastEnd, NoRight}
use Rattle.rights.specs.Rights.{read_code, write_code, locked_to, lock_code, perma_read_code, perma_code}

-- the worked layout with a USER of 32 words, twice as many as can be stored at once
abbrev wide : Layout
wide =
    record {
      block = 4;
      status = worked_layout.status;
      reserved = worked_layout.reserved;
      epc = worked_layout.epc;
      tid = worked_layout.tid;
      user = record { at = 28; words = 32 };
      perma = worked_layout.perma;
      work = worked_layout.work;
    }

-- Write, BlockWrite and BlockErase
pub record Writes : Type 0 where
  pub user_15 : write_code worked_layout worked false (span 3 15 1) 0 ≡ Ok tt
  pub user_16 : write_code worked_layout worked false (span 3 16 1) 0 ≡ Err PastEnd
  pub words_16 : write_code worked_layout worked false (span 3 0 16) 0 ≡ Ok tt
  pub words_17 : write_code worked_layout worked false (span 3 0 17) 0 ≡ Err PastEnd
  pub over_w : write_code wide worked false (span 3 0 17) 0 ≡ Err Other
  pub l_is_2 : write_code worked_layout worked false (span 1 1 1) 0x1000 ≡ Ok tt
  pub l_is_3 : write_code worked_layout worked false (span 1 1 1) 0x1800 ≡ Err PastEnd
  pub l_is_3_elsewhere : write_code worked_layout worked false (span 1 2 2) 0x1800 ≡ Ok tt
  pub epc_0 : write_code worked_layout worked true (span 1 0 2) 0x1000 ≡ Err NoRight
  pub tid_0 : write_code worked_layout worked true (span 2 0 1) 0 ≡ Err NoRight
  pub block_0_locked : write_code worked_layout (with_word worked 44 0x8000) true (span 3 3 1) 0 ≡ Err NoRight
  pub block_1_open : write_code worked_layout (with_word worked 44 0x8000) true (span 3 4 4) 0 ≡ Ok tt
  pub one_word_locked : write_code worked_layout (with_word worked 44 0x8000) true (span 3 3 2) 0 ≡ Err NoRight
  pub user_01 : write_code worked_layout (with_word worked 16 0x001) false (span 3 0 1) 0 ≡ Ok tt
  pub user_10 : write_code worked_layout (with_word worked 16 0x002) false (span 3 0 1) 0 ≡ Err NoRight
  pub user_10_secured : write_code worked_layout (with_word worked 16 0x002) true (span 3 0 1) 0 ≡ Ok tt
  pub user_11 : write_code worked_layout (with_word worked 16 0x003) true (span 3 0 1) 0 ≡ Err NoRight
  pub access_11 : write_code worked_layout (with_word worked 16 0x0C0) true (span 0 1 1) 0 ≡ Ok tt
  pub access_11_taken : write_code worked_layout (with_word worked 16 0x0C0) true (span 0 1 2) 0 ≡ Err NoRight

pub writes : Writes
unfolding write_code worked word_at with_word
writes =
    record {
      user_15 = refl;
      user_16 = refl;
      words_16 = refl;
      words_17 = refl;
      over_w = refl;
      l_is_2 = refl;
      l_is_3 = refl;
      l_is_3_elsewhere = refl;
      epc_0 = refl;
      tid_0 = refl;
      block_0_locked = refl;
      block_1_open = refl;
      one_word_locked = refl;
      user_01 = refl;
      user_10 = refl;
      user_10_secured = refl;
      user_11 = refl;
      access_11 = refl;
      access_11_taken = refl;
    }

-- Read
pub record Reads : Type 0 where
  pub kill_10 : read_code worked_layout (with_word worked 16 0x200) false (span 0 1 1) ≡ Err NoRight
  pub kill_10_secured : read_code worked_layout (with_word worked 16 0x200) true (span 0 1 1) ≡ Ok tt
  pub kill_10_to_end : read_code worked_layout (with_word worked 16 0x200) false (span 0 2 0) ≡ Ok tt
  pub kill_10_from_1 : read_code worked_layout (with_word worked 16 0x200) false (span 0 1 0) ≡ Err NoRight
  pub at_end : read_code worked_layout worked true (span 0 4 0) ≡ Err PastEnd
  pub user_11 : read_code worked_layout (with_word worked 16 0x003) false (span 3 0 0) ≡ Ok tt

pub reads : Reads
unfolding read_code worked word_at with_word
reads = record { kill_10 = refl; kill_10_secured = refl; kill_10_to_end = refl; kill_10_from_1 = refl; at_end = refl; user_11 = refl }

-- Lock and BlockPermalock
pub record Locks : Type 0 where
  pub pwd_of_11 : lock_code worked_layout (with_word worked 16 0x003) 0x002 0x000 ≡ Err NoRight
  pub pwd_of_01 : lock_code worked_layout (with_word worked 16 0x001) 0x002 0x002 ≡ Err NoRight
  pub user_to_01 : lock_code worked_layout worked 0x001 0x001 ≡ Ok tt
  pub user_to_01_locked : lock_code worked_layout (with_word worked 44 0x1000) 0x001 0x001 ≡ Err NoRight
  pub user_at_01_locked : lock_code worked_layout (with_word (with_word worked 44 0x1000) 16 0x001) 0x020 0x020 ≡ Ok tt
  pub block_3 : perma_code worked_layout worked (span 3 0 1) (0x10 ∷ 0x00 ∷ []) 0 ≡ Ok tt
  pub block_4 : perma_code worked_layout worked (span 3 0 1) (0x08 ∷ 0x00 ∷ []) 0 ≡ Err PastEnd
  pub epc : perma_code worked_layout worked (span 1 0 1) (0x10 ∷ 0x00 ∷ []) 0 ≡ Err PastEnd
  pub user_01 : perma_code worked_layout (with_word worked 16 0x001) (span 3 0 1) (0x10 ∷ 0x00 ∷ []) 0 ≡ Err NoRight
  pub first_range : perma_read_code worked_layout (span 3 0 1) ≡ Ok tt
  pub second_range : perma_read_code worked_layout (span 3 1 1) ≡ Err PastEnd

pub locks : Locks
unfolding lock_code locked_to perma_code perma_read_code blocks_in worked word_at with_word
locks =
    record {
      pwd_of_11 = refl;
      pwd_of_01 = refl;
      user_to_01 = refl;
      user_to_01_locked = refl;
      user_at_01_locked = refl;
      block_3 = refl;
      block_4 = refl;
      epc = refl;
      user_01 = refl;
      first_range = refl;
      second_range = refl;
    }
