mod KeyLaws
mod MapLaws
mod MemoryLaws
mod SeekLaws
mod SizeLaws
mod VecLaws
mod WordLaws
